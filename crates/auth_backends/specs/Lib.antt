-- What the public contracts of this crate and of those above it cite.
pub mod PasswordReading
pub mod Authentication
pub mod SessionBox
pub mod Laws
