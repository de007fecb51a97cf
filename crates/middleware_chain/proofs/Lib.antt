pub mod BegunLemmas
pub mod MemoryText
pub mod SecretLemmas
