-- What the public contracts of this crate cite.
pub mod FormFields
pub mod Head
pub mod HeadFault
pub mod HeaderFields
pub mod Laws
pub mod Plan
pub mod Reader
pub mod RequestFraming
pub mod RequestLine
pub mod ResponseText
pub mod Sight
pub mod Stream
