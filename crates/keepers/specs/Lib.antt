-- What the public contracts of this crate and of those above it cite.
pub mod Keeper
pub mod MemoryKeeper
pub mod MemoryStore
pub mod MemoryTables
pub mod SortedRows
