-- WebAssembly 2.0, 6.2.3 (whitespace) and 6.2.4 (comments). The rows of a text: those of all its significant tokens,
-- with their links. Rows and links are not part of the standard.
use Rattle.std.specs.Prelude.{◌≡◌, ℕ, zero, suc, List, [], ◌∷◌, map, if◌then◌else◌, Option, Some, None}
use Rattle.wat_lex.specs.declared.lexer.faults.LexFault.{LexFault}
use Rattle.wat_lex.specs.declared.lexer.kinds.Token.{Token}
use Rattle.wat_lex.specs.tokens.Blanks.{is_blank}
use Rattle.wat_lexer_parser.specs.places.Source.{Source, IsRead}
use Rattle.wat_lexer_parser.specs.laws.Counting.{counting}
use Rattle.wat_c_records.specs.Counting.{row_of}
use Rattle.wat_c_records.specs.Links.{AreLinked, without_link}
use Rattle.wat_c_records.specs.Rows.{fault_code}
use Rattle.wat_c_records.specs.declared.counting.Row.{Row}

-- `ending_code ending` is 0 if the raw tokens end at the end of the text, otherwise the code of the lexical error.
abbrev pub ending_code : Option LexFault → ℕ
ending_code None = 0
ending_code (Some f) = fault_code f.error

-- `AreRowsOf s rows why`: the rows are those of all significant tokens of the text, with their links, and `why` is the
-- code of the ending.
pub record AreRowsOf (s : Source) (rows : List Row) (why : ℕ) : Type 0 where
  pub read : IsRead s
  pub known : map without_link rows ≡ map (row_of s.setting.text 0) (counting s.tokens)
  pub linked : AreLinked rows
  pub ends : why ≡ ending_code s.ending

-- `HaveTokensOf s rows`: the rows are those of all significant tokens of the text, whatever their links are.
pub record HaveTokensOf (s : Source) (rows : List Row) : Type 0 where
  pub read : IsRead s
  pub known : map without_link rows ≡ map (row_of s.setting.text 0) (counting s.tokens)

-- `RowsOf text rows why`: the rows and the code of the ending are those of the text, under some settings.
pub record RowsOf (text : List ℕ) (rows : List Row) (why : ℕ) : Type 0 where
  pub source : Source
  pub of_text : source.setting.text ≡ text
  pub are : AreRowsOf source rows why

-- `raw_position tokens count` is the number of raw tokens up to and including the last of the first `count` significant
-- ones.
unfoldable pub raw_position : List Token → ℕ → ℕ
raw_position [] count = 0
raw_position (t ∷ ts) zero = 0
raw_position (t ∷ ts) (suc count) = suc (if is_blank t.kind then raw_position ts (suc count) else raw_position ts count)
