-- What the public contracts of this crate cite.
pub mod EntryText
pub mod EntryReading
pub mod EntryFaults
pub mod Laws
