pub mod DecodeFaults
pub mod Decoding
pub mod Held
pub mod Laws
pub mod SessionMap
pub mod SessionText
