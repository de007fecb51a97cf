pub mod AuthenticationLemmas
pub mod PasswordReadingLemmas
pub mod SessionBoxLemmas
