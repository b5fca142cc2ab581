pub mod TokenTerminals
pub mod Shown
pub mod Drafts
