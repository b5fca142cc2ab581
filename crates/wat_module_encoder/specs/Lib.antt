pub mod Binary
pub mod NameSection
pub mod CustomSections
pub mod Views
