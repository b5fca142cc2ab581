-- Lemmas that follow from the definitions, for the proofs of this crate and of crates above. The contracts can be
-- understood without them.
pub mod InputLaws
