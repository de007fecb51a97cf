-- What the public contracts of this crate cite.
pub mod Alphabet
pub mod Cut
pub mod HashFunctions
pub mod Hexadecimal
pub mod Hmac
pub mod Laws
pub mod Md5Hex
pub mod Moment
pub mod Numeral
pub mod Rfc2104
pub mod Rfc4648
pub mod Rfc8018
pub mod SaltedHmac
pub mod TextList
pub mod WhiteSpace
