pub mod FunctionTypes
pub mod Moved
pub mod Reads
pub mod Sides
pub mod lemmas
