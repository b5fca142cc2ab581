use Rattle.std.proofs.Common.{◌≡◌, ◌≤◌, ◌+◌, ◌-◌, ◌*◌, length}
use Rattle.std.specs.Prelude.{IsTrue}
use Rattle.wat_lexer_parser.specs.inside.FirstTokens.{IsMarkedAt, not_passed}
use Rattle.wat_lexer_parser.specs.inside.Next.{IsPlace}
use Rattle.wat_lexer_parser.specs.shown.Showing.{shown}
use Rattle.wat_lexer_parser.proofs.parser.text_ref.TextRef.next_past.Given as goal

abbrev pub invariant-tokens : goal.invariant-tokens
invariant-tokens l = record {
  place : IsPlace l.self l.i l.pos;
  mark : IsTrue l.marked → IsMarkedAt l.self l.i l.pos;
  on : l.place ≤ l.i;
  same : shown l.self l.place l.names ≡ shown l.self l.i l.names;
}

abbrev pub decreases-tokens : goal.decreases-tokens
decreases-tokens l = 2 * (length l.self.tokens - l.i) + not_passed l.marked
