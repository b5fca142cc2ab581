pub mod Sums
pub mod Spelling
