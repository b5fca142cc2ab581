-- The tokens of a source text: settings, tilings, lexical errors and error recovery, and the theorems about them.
pub mod Setting
pub mod Blanks
pub mod BareWords
pub mod QuotedNames
pub mod StringFaults
pub mod Faults
pub mod Recovery
pub mod Unclosed
pub mod Tiling
pub mod UniqueTilings
pub mod CutsAndMoves
pub mod ReadableTokens
pub mod Raw
pub mod Laws
pub mod Blanking
pub mod EverySetting
