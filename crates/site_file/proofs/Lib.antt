pub mod BackendLemmas
pub mod IdLemmas
pub mod OpeningLemmas
pub mod SiteFileLemmas
