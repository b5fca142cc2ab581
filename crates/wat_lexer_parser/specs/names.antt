-- The registered names of annotations.
pub mod RegisteredNames
