pub mod Answering
pub mod Bounds
pub mod PiecesLemmas
pub mod Reading
pub mod RequestLine
pub mod Settled
pub mod Texts
