pub mod Laws
pub mod Moment
pub mod ResetToken
pub mod TokenVerdict
pub mod UserIdText
