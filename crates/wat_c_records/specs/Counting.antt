-- WebAssembly 2.0, 6.2.3 (whitespace) and 6.2.4 (comments). The significant tokens are all others; each has a row.
use Rattle.std.specs.Prelude.{◌≡◌, ◌<◌, ℕ, false, List, [], ◌∷◌, length, map, if◌then◌else◌}
use Rattle.std.specs.Str.{IsCharBoundary}
use Rattle.wat_lex.specs.tokens.Faults.{FaultAt}
use Rattle.wat_lex.specs.tokens.Setting.{Setting}
use Rattle.wat_lex.specs.tokens.Tiling.{TokenAt, Tiling}
use Rattle.wat_lex.specs.declared.lexer.faults.LexFault.{LexFault}
use Rattle.wat_lex.specs.declared.lexer.kinds.Token.{Token}
use Rattle.wat_lex.specs.declared.lexer.kinds.TokenKind.{TokenKind}
use Rattle.wat_lex.specs.declared.lexer.kinds.TokenKind.TheVariants.{LParen}
use Rattle.wat_lex.specs.declared.lexer.settings.Settings.{Settings}
use Rattle.wat_lex.specs.tokens.Blanks.{is_blank, is_marked}
use Rattle.wat_lexer_parser.specs.laws.Counting.{counting}
use Rattle.wat_c_records.specs.Rows.{plain, kind_row, fault_code}
use Rattle.wat_c_records.specs.declared.counting.Row.{Row}
use Rattle.wat_c_records.specs.declared.rows.Filled.{Filled}
use Rattle.wat_c_records.specs.declared.rows.KindRow.{KindRow}

-- Code of a `(` followed immediately by `@`.
abbrev pub opens_at : ℕ
opens_at = 16

abbrev pub row_kind_of : List ℕ → Token → TokenKind → KindRow
row_kind_of text t LParen = if is_marked text t then plain opens_at else kind_row LParen
row_kind_of text t kind = kind_row kind

-- `row_of text link t` is the row of the token `t` of `text`, with this link.
abbrev pub row_of : List ℕ → ℕ → Token → Row
row_of text link t = record { offset = t.offset; len = t.len; kind = row_kind_of text t t.kind; link = link }

-- `IsRow text row`: the row tells a significant token of the text, lexed under some settings.
pub record IsRow (text : List ℕ) (row : Row) : Type 0 where
  pub flags : Settings
  pub token : Token
  pub boundary : IsCharBoundary text row.offset
  pub is_at : TokenAt (record { text = text; flags = flags }) row.offset token
  pub counts : is_blank token.kind ≡ false
  pub known : row ≡ row_of text row.link token

-- `EndsCounting tokens`: the last of the tokens is not whitespace or a comment. There may be no tokens.
abbrev pub EndsCounting : List Token → Type 0
EndsCounting [] = Unit {0}
EndsCounting (t ∷ []) = is_blank t.kind ≡ false
EndsCounting (t ∷ u ∷ ts) = EndsCounting (u ∷ ts)

-- `StopsCounting s at room count tokens why`: filling a buffer of `room` rows from these raw tokens stops at offset
-- `at` after `count` rows, for the reason `why`, as in `Stops`. If the buffer is full, the last raw token is
-- significant, so that `at` is the end of the last row.
pub data StopsCounting (s : Setting) (at room count : ℕ) (tokens : List Token) : ℕ → Type 0 where
  ended : count < room → at ≡ length s.text → StopsCounting s at room count tokens 0
  full : count ≡ room → EndsCounting tokens → StopsCounting s at room count tokens 1
  faulty : (f : LexFault) (code : ℕ) → count < room → FaultAt s at f → code ≡ fault_code f.error → StopsCounting s at room count tokens code

-- `FillsCounting s from room rows filled`: the rows are those of the significant tokens among the raw tokens from
-- `from` to `filled.at`, with the link 0. Their number is `filled.count`, and `filled.why` is the reason to stop.
pub record FillsCounting (s : Setting) (from room : ℕ) (rows : List Row) (filled : Filled) : Type 0 where
  pub tokens : List Token
  pub tiling : Tiling s from filled.at tokens
  pub rows_are : rows ≡ map (row_of s.text 0) (counting tokens)
  pub count : filled.count ≡ length (counting tokens)
  pub stops : StopsCounting s filled.at room filled.count tokens filled.why

-- `OneFillCounting s from room`: the rows of the significant tokens from `from` are unique, and so is the result of
-- filling a buffer of `room` rows with them.
unfoldable pub OneFillCounting : Setting → ℕ → ℕ → Type 0
OneFillCounting s from room =
    (rows others : List Row) (filled other : Filled) → FillsCounting s from room rows filled → FillsCounting s from room others other
    → (rows ≡ others) × (filled ≡ other)
