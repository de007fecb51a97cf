pub mod Calls
pub mod Positions
pub mod Readings
pub mod Retries
