pub mod ChangeLemmas
pub mod EntryLemmas
pub mod OrderLemmas
pub mod PlaceLemmas
