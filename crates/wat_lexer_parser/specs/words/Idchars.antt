-- WebAssembly 2.0, 6.2.2 (tokens, keyword) and 6.3.5 (identifiers, idchar); the custom annotations proposal (names).
use Rattle.std.specs.Prelude.{ℕ, List, IsTrue}
use Rattle.std.specs.List.{list_all}
use Rattle.wat_lex.specs.grammar.Classes.{is_idchar}

-- Each entry of a table of words consists of idchars alone, so a text contains it literally, without a string. The
-- entries are indexed from 0.
abbrev pub WordsAreIdchars : (ℕ → List ℕ) → Type 0
WordsAreIdchars word_at = (place : ℕ) → IsTrue (list_all is_idchar (word_at place))
