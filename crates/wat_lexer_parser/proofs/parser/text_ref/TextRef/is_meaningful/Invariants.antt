use Rattle.std.proofs.Common.{◌≡◌, ◌-◌, length}
use Rattle.wat_lexer_parser.specs.inside.Next.{IsPlace}
use Rattle.wat_lexer_parser.specs.inside.Meaning.{is_meaningful_from}
use Rattle.wat_lexer_parser.specs.places.Places.{is_meaningful}
use Rattle.wat_lexer_parser.proofs.parser.text_ref.TextRef.is_meaningful.Given as goal

abbrev pub invariant-tokens : goal.invariant-tokens
invariant-tokens l = record {
  place : IsPlace l.self l.i l.pos;
  same : is_meaningful l.self ≡ is_meaningful_from l.self l.i;
}

abbrev pub decreases-tokens : goal.decreases-tokens
decreases-tokens l = length l.self.tokens - l.i
