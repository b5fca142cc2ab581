pub mod Terminals
pub mod Tokens
pub mod Parts
pub mod TokenCursor
