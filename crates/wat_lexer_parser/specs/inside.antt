-- Definitions for the contracts of private functions, and `Shown` as a function. No public contract needs them.
pub mod ShownIn
pub mod MapEntries
pub mod Next
pub mod FirstTokens
pub mod Table
pub mod TableNames
pub mod Codes
pub mod IntegerReadings
pub mod RawTokens
pub mod Groups
pub mod Meaning
pub mod Rows
