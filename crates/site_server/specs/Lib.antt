-- What the public contracts of this crate cite.
pub mod Command
pub mod ExitStatus
pub mod Laws
pub mod ManageSite
pub mod OneWorker
pub mod Outcome
pub mod OwnLedger
pub mod OwnLedgerLaws
pub mod Round
pub mod Saying
pub mod Sending
pub mod Step
pub mod Transcript
pub mod Turns
