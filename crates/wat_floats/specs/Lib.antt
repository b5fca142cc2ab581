pub mod Literals
pub mod Rounding
pub mod Samples
