-- Lemmas about maps with string keys.
pub mod MapsOfTexts
