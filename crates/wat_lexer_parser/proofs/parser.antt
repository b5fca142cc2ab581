-- Lemmas about the results of a parser's calls.
pub mod Escapes
pub mod Refusals
pub mod Joins
