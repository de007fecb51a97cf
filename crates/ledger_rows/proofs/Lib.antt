pub mod HistoryLemmas
pub mod KeyLemmas
pub mod PayloadLemmas
pub mod TableLemmas
pub mod OpeningLemmas
pub mod AdmissionLemmas
pub mod AuthKeyLemmas
pub mod UserLemmas
