-- The lexemes of keywords and annotations.
pub mod Idchars
