pub mod CookieHeader
pub mod FixedDate
pub mod SetCookie
