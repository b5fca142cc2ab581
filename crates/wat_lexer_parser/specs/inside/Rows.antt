-- Rows of tokens that are visible under each set of registered names. Not part of the standard.
use Rattle.wat_lex.specs.declared.lexer.kinds.Token.{Token}
use Rattle.wat_lexer_parser.specs.declared.parser.text_ref.Row.{Row}
use Rattle.wat_lexer_parser.specs.inside.Next.{IsNext, IsPlace}
use Rattle.wat_lexer_parser.specs.names.RegisteredNames.{Names}
use Rattle.wat_lexer_parser.specs.places.Source.{Source}
use Rattle.std.specs.Prelude.{ℕ}

-- The token of a row.
abbrev pub token_of : Row → Token
token_of row = record { offset = row.offset; len = row.len; kind = row.kind }

-- The row's token is visible, under each set of names, at the position with the byte offset `row.from`.
pub record IsRow (s : Source) (row : Row) : Type 0 where
  pub place : ℕ
  pub after : ℕ
  pub is_at : IsPlace s place row.from
  pub shown : (names : Names) → IsNext s place names (token_of row, after)
