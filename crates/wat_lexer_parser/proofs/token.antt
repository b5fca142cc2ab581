-- Lemmas about the values of tokens.
pub mod Utf8
pub mod Named
