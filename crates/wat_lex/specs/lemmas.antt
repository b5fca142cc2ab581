-- Consequences of the definitions, for proofs of this crate and of dependent crates. No contract needs them to be
-- understood.
pub mod Lengths
