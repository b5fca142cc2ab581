-- Lemmas about readings that are independent of the start offset. These are proofs, which a reader may skip.
pub mod Among
pub mod Found
pub mod Seeing
pub mod Moving
pub mod Types
pub mod Wholes
