-- WebAssembly 2.0, 6.2 (lexical format): a source text is a sequence of tokens. Theorems about rows, which are not part
-- of the standard.
use Rattle.std.specs.Prelude.{◌≡◌, ◌≢◌, ℕ, List, ◌++◌, map, slice_get, Some, Ok}
use Rattle.std.specs.Str.{IsUtf8}
use Rattle.wat_lex.specs.tokens.Setting.{Setting}
use Rattle.wat_lexer_parser.specs.names.RegisteredNames.{Names}
use Rattle.wat_lexer_parser.specs.places.Source.{Source}
use Rattle.wat_c_records.specs.Counting.{FillsCounting, IsRow, opens_at}
use Rattle.wat_c_records.specs.Links.{AreLinked, without_link}
use Rattle.wat_c_records.specs.Looks.{Looks}
use Rattle.wat_c_records.specs.Places.{AreRowsOf, RowsOf, HaveTokensOf}
use Rattle.wat_c_records.specs.declared.counting.Row.{Row}
use Rattle.wat_c_records.specs.declared.rows.Filled.{Filled}

-- `FillsInPieces s from rows why`: the rows result from several calls, the first from offset `from`, and each other
-- from the offset at which the call before it stopped. The last call stopped at the end of the text or at a lexical
-- error, as `why` tells.
pub data FillsInPieces (s : Setting) : ℕ → List Row → ℕ → Type 0 where
  last : {from room why : ℕ} {rows : List Row} {filled : Filled} → FillsCounting s from room rows filled → filled.why ≡ why → why ≢ 1
      → FillsInPieces s from rows why
  piece : {from room why : ℕ} {rows others : List Row} {filled : Filled} → FillsCounting s from room rows filled
      → FillsInPieces s filled.at others why → FillsInPieces s from (rows ++ others) why

-- Theorem: rows that result from several calls from offset 0 on, with their links set, are the rows of the text.
abbrev pub PiecesAreRows : Type 0
PiecesAreRows = (s : Setting) (filled rows : List Row) (why : ℕ) → FillsInPieces s 0 filled why → map without_link rows ≡ map without_link filled
    → AreLinked rows → RowsOf s.text rows why

-- Theorem: rows that result from several calls from offset 0 on tell the significant tokens of the text, whatever their
-- links are.
abbrev pub PiecesTellTokens : Type 0
PiecesTellTokens = (s : Setting) (filled rows : List Row) (why : ℕ) → FillsInPieces s 0 filled why → map without_link rows ≡ map without_link filled
    → (source : Source) × (source.setting ≡ s) × HaveTokensOf source rows

-- Theorem: each of the rows of a text tells a token of it.
abbrev pub RowsTellTokens : Type 0
RowsTellTokens = (s : Source) (rows : List Row) (number : ℕ) (row : Row) → IsUtf8 s.setting.text → HaveTokensOf s rows
    → slice_get rows number ≡ Some row → IsRow s.setting.text row

-- Theorem: a row is visible at its index, under every set of names, unless it is a `(` followed immediately by `@`.
abbrev pub PlainRowsAreShown : Type 0
PlainRowsAreShown = (s : Source) (rows : List Row) (why number : ℕ) (row : Row) (names : Names) → IsUtf8 s.setting.text → AreRowsOf s rows why
    → slice_get rows number ≡ Some row → row.kind.code ≢ opens_at
    → Looks s number names (Ok number)
