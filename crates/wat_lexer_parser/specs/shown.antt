-- The visible tokens: of a list of raw tokens, and at a position of a text.
pub mod Shown
pub mod Showing
