-- WebAssembly 2.0, 6.2 (lexical format) and 6.3 (values): characters, comments, strings, numbers, runs, and the
-- language of each kind of token.
pub mod Classes
pub mod Comments
pub mod SpacedWords
pub mod Strings
pub mod Numbers
pub mod Runs
pub mod Words
