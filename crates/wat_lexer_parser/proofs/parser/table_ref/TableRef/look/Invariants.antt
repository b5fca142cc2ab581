use Rattle.std.proofs.Common.{◌≡◌, ◌≤◌, ◌-◌, length}
use Rattle.wat_lexer_parser.specs.shown.Showing.{shown}
use Rattle.wat_lexer_parser.proofs.parser.table_ref.TableRef.look.Given as goal

abbrev pub invariant-loop-i : goal.invariant-loop-i
invariant-loop-i l = record {
  on : l.place ≤ l.i;
  same : shown l.self l.place l.names ≡ shown l.self l.i l.names;
}

abbrev pub decreases-loop-i : goal.decreases-loop-i
decreases-loop-i l = length l.self.tokens - l.i
