-- Lemmas about positions.
pub mod Tails
pub mod Comments
pub mod TakenSpans
pub mod Bytes
pub mod Meaning
