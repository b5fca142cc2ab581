pub mod Signatures
pub mod Grammar
pub mod Binary
pub mod Meanings
pub mod Compiling
