pub mod AnswerLemmas
pub mod LoadLemmas
pub mod RotationLemmas
pub mod UserLemmas
pub mod MailLemmas
pub mod LedgerLemmas
