pub mod Places
pub mod Reading
pub mod Law
pub mod Views
pub mod Groups
pub mod Labels
pub mod NamedTypes
