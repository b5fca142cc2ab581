pub mod Customs
pub mod Placements
pub mod Search
pub mod Unannotated
pub mod Values
