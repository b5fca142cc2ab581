-- Lemmas about groups in parentheses.
pub mod Closing
