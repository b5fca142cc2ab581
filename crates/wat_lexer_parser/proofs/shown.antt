-- Lemmas about visible tokens.
pub mod Skipping
pub mod Annotations
pub mod Looks
pub mod PassedGroups
pub mod Steps
pub mod SomethingShown
pub mod Marks
pub mod BlankedMarks
pub mod BlankedShown
pub mod BlankBytes
pub mod Counting
pub mod CountingTokens
pub mod Groups
pub mod FirstTokens
