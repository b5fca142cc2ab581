-- Positions between raw tokens, with their byte offsets, spans and comments.
pub mod Source
pub mod Places
