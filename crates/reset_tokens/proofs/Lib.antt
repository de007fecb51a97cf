pub mod MomentLemmas
pub mod ResetTextLemmas
pub mod ResetTokenLemmas
pub mod TokenVerdictLemmas
pub mod UserIdTextLemmas
