-- Lemmas about the table of a buffer.
pub mod Heads
pub mod Pairing
pub mod Stacks
pub mod Filling
pub mod PlainNames
pub mod BareNames
pub mod RawTokens
