pub mod Clock
pub mod Devices
pub mod Faults
pub mod Memory
pub mod RandomWordLaws
pub mod RandomWords
