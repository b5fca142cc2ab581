-- The lines of a text. A line extends to its line feed, or to the end of the text. Not part of the standard.
use Rattle.std.specs.Prelude.{◌≡◌, ◌<◌, ◌≤◌, ℕ, List, length}
use Rattle.memchr.specs.Find.{Nowhere, Passes, is_byte}
use Rattle.wat_lex.specs.errors.Positions.{line_and_column}
use Rattle.wat_lex.specs.grammar.Classes.{line_feed}

-- From the offset `start` of `text` on, the first line feed is at `end`; or there is none, and the text ends at `end`.
pub record EndsLine (text : List ℕ) (start end : ℕ) : Type 0 where
  pub after : start ≤ end
  pub within : end ≤ length text
  pub none : Nowhere (Passes (is_byte line_feed) text) start end
  pub feed : end < length text → Passes (is_byte line_feed) text end

-- The line of `text` with this `number`, counted from 0, begins at the offset `start` and ends at `end`.
pub record IsLine (text : List ℕ) (number start end : ℕ) : Type 0 where
  pub begins : line_and_column text start ≡ (number, 0)
  pub ends : EndsLine text start end
