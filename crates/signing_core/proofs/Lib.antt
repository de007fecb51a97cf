pub mod DecodingLemmas
pub mod KeysLemmas
pub mod SignatureLemmas
pub mod SignedJsonLemmas
pub mod TimedTextLemmas
