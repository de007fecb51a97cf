pub mod AsciiJson
pub mod Escaping
pub mod Laws
pub mod MembersCode
pub mod Profile
pub mod Representable
