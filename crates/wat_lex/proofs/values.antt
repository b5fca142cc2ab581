-- Lemmas on what the words of tokens read as.
pub mod NumberValues
pub mod NumberParts
pub mod NumberWords
pub mod Names
pub mod StringValues
pub mod Numerals
pub mod Magnitudes
pub mod OneValues
pub mod SomeValues
pub mod TokenValues
pub mod WordValues
pub mod NameParts
