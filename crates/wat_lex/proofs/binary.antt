-- Lemmas on the binary format.
pub mod Leb128Laws
