-- Grammars of formats: the visible tokens that each reading accepts, and the values that the grammar derives for a
-- whole text.
pub mod Rules
pub mod Formats
pub mod FormatTypes
pub mod Spelling
