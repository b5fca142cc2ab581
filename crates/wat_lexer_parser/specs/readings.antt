-- The language of readings, the results of calls that parse, the readings of the library's types, and those of
-- lookaheads.
pub mod Readings
pub mod Reads
pub mod Types
pub mod Attempts
pub mod Choices
