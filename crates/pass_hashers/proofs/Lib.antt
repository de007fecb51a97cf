pub mod LastPartLemmas
pub mod LetterLemmas
pub mod ReadingLemmas
pub mod TextLemmas
