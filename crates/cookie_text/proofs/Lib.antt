pub mod CookieHeaderLemmas
pub mod FixedDateLemmas
