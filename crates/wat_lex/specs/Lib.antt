pub mod grammar
pub mod tokens
pub mod values
pub mod errors
pub mod identifiers
pub mod binary
pub mod lemmas
pub mod inside
