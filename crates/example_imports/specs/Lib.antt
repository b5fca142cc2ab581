pub mod Imports
pub mod Values
pub mod Spelling
