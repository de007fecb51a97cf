pub mod Decoding
pub mod Keys
pub mod Laws
pub mod LoadFaults
pub mod SignedCookie
pub mod SignedJson
pub mod Signature
pub mod TimedText
