pub mod Examples
pub mod Finding
pub mod PlacedLaws
pub mod Renamed
pub mod Steps
