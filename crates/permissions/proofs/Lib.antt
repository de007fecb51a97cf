mod OrderLemmas
mod PermissionSetLemmas
mod SearchLemmas
