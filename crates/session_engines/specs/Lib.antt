-- What the public contracts of this crate and of those above it cite.
pub mod KeyChange
pub mod Ledger
pub mod Loading
pub mod Mailing
pub mod OpenFault
pub mod Start
pub mod Taking
pub mod UserChange
