mod grammar
mod tokens
mod values
mod errors
mod binary
mod inside
pub mod lemmas
