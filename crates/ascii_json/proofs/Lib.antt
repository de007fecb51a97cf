pub mod CompactLemmas
pub mod EscapeLemmas
pub mod HasTexts
pub mod Printable
pub mod PrintableLemmas
pub mod ReadLemmas
pub mod RoundTrip
pub mod WrittenReadsBack
