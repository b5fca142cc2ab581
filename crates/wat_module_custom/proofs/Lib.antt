pub mod FieldPlaces
pub mod Finding
pub mod Signs
pub mod Steps
pub mod UnannotatedLaws
