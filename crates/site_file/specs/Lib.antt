-- What the public contracts of this crate cite.
pub mod Fields
pub mod Entries
pub mod OpeningForm
pub mod TrustedOrigins
pub mod SiteFile
pub mod Laws
