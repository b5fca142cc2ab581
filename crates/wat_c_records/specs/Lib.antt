pub mod Counting
pub mod Links
pub mod Looks
pub mod Pieces
pub mod Places
pub mod Rows
pub mod inside
