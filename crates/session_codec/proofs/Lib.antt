pub mod AuthLemmas
pub mod DecodedLemmas
pub mod DecodingLemmas
pub mod MembersLemmas
