-- Positions of a text with their byte offsets, and the result that a parser caches of its last peek, so that it peeks
-- only once at a position under the same names. Not part of the standard.
use Rattle.std.specs.Prelude.{◌≡◌, ◌≤◌, ◌<◌, ◌+◌, ◌^◌, ℕ, length, Some, Result, Ok, Err}
use Rattle.wat_lex.specs.declared.lexer.kinds.Token.{Token}
use Rattle.wat_lex.specs.tokens.ReadableTokens.{IsTokenOf}
use Rattle.wat_lexer_parser.specs.names.RegisteredNames.{Names}
use Rattle.wat_lexer_parser.specs.places.Places.{offset_at}
use Rattle.wat_lexer_parser.specs.places.Source.{Source}
use Rattle.wat_lexer_parser.specs.shown.Showing.{shown}

-- The position `p` is in the text, and `byte` is its byte offset.
pub record IsPlace (s : Source) (p byte : ℕ) : Type 0 where
  pub within : p ≤ length s.tokens
  pub byte_at : byte ≡ offset_at s.tokens p

-- The token fits the preconditions of the readers, and the position is one whose byte offset is the token's end.
pub record IsAfter (s : Source) (v : Token × ℕ) : Type 0 where
  pub place : IsPlace s v.1 (v.0.offset + v.0.len)
  pub reader : IsTokenOf s.setting.text v.0
  pub short : v.0.offset + v.0.len < 2 ^ 32

-- The token is visible at position `p` under these names, and the position after it is given.
pub record IsNext (s : Source) (p : ℕ) (names : Names) (v : Token × ℕ) : Type 0 where
  pub value : shown s p names ≡ Ok (Some v)
  pub on : p < v.1
  pub after : IsAfter s v

-- The position without its byte offset.
abbrev pub known_place : {E : Type 0} → Result (ℕ × ℕ) E → Result ℕ E
known_place (Ok q) = Ok q.0
known_place (Err e) = Err e
