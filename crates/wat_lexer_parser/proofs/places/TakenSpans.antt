-- If a token is visible, the current span is its offset.
use Rattle.std.proofs.Common.{◌≡◌, ℕ, List, ap, Some, Ok, Err}
use Rattle.wat_lex.specs.declared.lexer.kinds.Token.{Token}
use Rattle.wat_lexer_parser.specs.names.RegisteredNames.{Names}
use Rattle.wat_lexer_parser.specs.parser.State.{seen, known}
use Rattle.wat_lexer_parser.specs.lemmas.Parts.{span_of}
use Rattle.wat_lexer_parser.specs.places.Places.{current_span}
use Rattle.wat_lexer_parser.specs.places.Source.{Source}
use Rattle.wat_lexer_parser.specs.shown.Showing.{Look, shown}

same_look : (text : List ℕ) (l : Look) (t : Token) (q : ℕ) → known text l ≡ Ok (Some (t, q)) → l ≡ Ok (Some (t, q))
same_look text (Ok found) t q e = cc
same_look text (Err f) t q e = cc

-- A token that callers see is visible.
pub seen_is_shown : (s : Source) (p : ℕ) (names : Names) (t : Token) (q : ℕ) → seen s p names ≡ Ok (Some (t, q)) → shown s p names ≡ Ok (Some (t, q))
unfolding seen
seen_is_shown s p names t q e = same_look s.setting.text (shown s p names) t q e

-- The current span is the offset of the token.
pub taken_span : (s : Source) (p : ℕ) (names : Names) (t : Token) (q : ℕ) → seen s p names ≡ Ok (Some (t, q)) → current_span s p names ≡ t.offset
unfolding current_span
taken_span s p names t q e = ap (span_of s p) (seen_is_shown s p names t q e)
