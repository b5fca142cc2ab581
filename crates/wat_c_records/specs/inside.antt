pub mod Naming
pub mod OneByte
pub mod Steps
