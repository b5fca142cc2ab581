-- Lemmas for the proofs of the crates above. All other modules of proofs are private to this crate.
pub mod Tokens
