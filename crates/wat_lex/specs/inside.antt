-- Contracts between private functions of the lexer. No public contract cites these definitions directly; of the other
-- definitions only `quoted_name_len` uses one of them, `is_plain`.
pub mod ScannedNumbers
pub mod ScannedStrings
pub mod StringParts
pub mod Outlines
pub mod ScannedLexemes
pub mod ScannedRuns
pub mod Recovered
pub mod Blocks
pub mod Nesting
pub mod Closings
pub mod Utf16Bytes
