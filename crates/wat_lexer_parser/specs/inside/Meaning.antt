-- A test for a significant token or a lexical error from a position on. Not part of the standard.
use Rattle.std.specs.Prelude.{ℕ, Bool, ◌||◌, not, drop, is_some}
use Rattle.std.specs.List.{list_any}
use Rattle.wat_lex.specs.tokens.Blanks.{is_blank}
use Rattle.wat_lexer_parser.specs.places.Source.{Source}

abbrev pub is_meaningful_from : Source → ℕ → Bool
is_meaningful_from s p = list_any (λ t. not (is_blank t.kind)) (drop p s.tokens) || is_some s.ending
