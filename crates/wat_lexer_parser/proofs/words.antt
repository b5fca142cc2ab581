-- Lemmas about the words of keywords and annotations.
pub mod Spelling
