-- Definitions for the contracts of private functions.
pub mod Tests
pub mod Steps
pub mod Writing
