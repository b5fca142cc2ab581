use Rattle.std.proofs.Common.{◌≡◌, ◌≤◌, ◌-◌, length}
use Rattle.wat_lexer_parser.specs.inside.Next.{IsPlace}
use Rattle.wat_lexer_parser.specs.names.RegisteredNames.{Names}
use Rattle.wat_lexer_parser.specs.shown.Showing.{shown}
use Rattle.wat_lexer_parser.proofs.parser.text_ref.TextRef.plain_at.Given as goal

abbrev pub invariant-tokens : goal.invariant-tokens
invariant-tokens l = record {
  place : IsPlace l.self l.i l.pos;
  on : l.place ≤ l.i;
  same : (names : Names) → shown l.self l.place names ≡ shown l.self l.i names;
}

abbrev pub decreases-tokens : goal.decreases-tokens
decreases-tokens l = length l.self.tokens - l.i
