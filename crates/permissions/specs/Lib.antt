pub mod PermissionSet
pub mod Laws
