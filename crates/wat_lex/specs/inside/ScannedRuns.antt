-- Results of the function that scans a run.
use Rattle.std.specs.Prelude.{◌≡◌, ◌+◌, ℕ, List, [], ◌∷◌, encode_utf8_all, length}
use Rattle.std.specs.Str.{chars}
use Rattle.wat_lex.specs.grammar.Classes.{size}
use Rattle.wat_lex.specs.grammar.Runs.{Piece, Idchar, Quoted, Run, RunKind}
use Rattle.wat_lex.specs.grammar.Words.{EndsRun}
use Rattle.wat_lex.specs.declared.lexer.settings.Settings.{Settings}
use Rattle.wat_lex.specs.declared.lexer.scan.runs.Pieces.{Pieces}
use Rattle.wat_lex.specs.declared.lexer.kinds.TokenKind.{TokenKind}

abbrev pub idchar_count : List Piece → ℕ
idchar_count [] = 0
idchar_count (Idchar c ∷ ps) = 1 + idchar_count ps
idchar_count (Quoted v ∷ ps) = idchar_count ps

abbrev pub string_count : List Piece → ℕ
string_count [] = 0
string_count (Idchar c ∷ ps) = string_count ps
string_count (Quoted v ∷ ps) = 1 + string_count ps

-- `RunFound flags text found`: the text begins with a run of this length, with these counts of idchars and strings, and
-- what follows does not extend the run.
pub record RunFound (flags : Settings) (text : List ℕ) (found : Pieces) : Type 0 where
  pub pieces : List Piece
  pub rest : List ℕ
  pub run : Run flags (chars text) pieces rest
  pub ends : EndsRun rest
  pub place : found.len + size rest ≡ length text
  pub first : found.idchars ≡ idchar_count pieces
  pub second : found.strings ≡ string_count pieces

-- `IsKindOfRun bytes idchars strings kind`: every run with these bytes, and with these counts of idchars and strings,
-- has this kind.
abbrev pub IsKindOfRun : List ℕ → ℕ → ℕ → TokenKind → Type 0
IsKindOfRun bytes idchars strings kind =
    (flags : Settings) (w : List ℕ) (ps : List Piece) → bytes ≡ encode_utf8_all w → Run flags w ps [] → idchars ≡ idchar_count ps → strings ≡ string_count ps → RunKind ps kind
