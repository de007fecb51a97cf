pub mod Laws
pub mod PasswordText
pub mod Reading
pub mod Weakness
