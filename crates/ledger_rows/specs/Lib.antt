-- What the public contracts of this crate and of those above it cite.
pub mod Tables
pub mod State
pub mod Backends
pub mod Admission
pub mod Form
pub mod Rows
pub mod Replies
pub mod SessionSteps
pub mod KeySteps
pub mod UserSteps
pub mod MailSteps
pub mod Step
pub mod Opening
pub mod History
pub mod Laws
