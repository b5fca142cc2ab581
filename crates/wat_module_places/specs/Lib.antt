pub mod Examples
pub mod Fields
pub mod Law
pub mod Places
pub mod Positions
pub mod Walk
