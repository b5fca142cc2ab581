use Rattle.std.proofs.Common.{◌≡◌, ◌≤◌, ◌-◌, length}
use Rattle.wat_lexer_parser.specs.names.RegisteredNames.{Names}
use Rattle.wat_lexer_parser.specs.shown.Showing.{shown}
use Rattle.wat_lexer_parser.proofs.parser.table_ref.TableRef.past_blanks.Given as goal

abbrev pub invariant-loop-i : goal.invariant-loop-i
invariant-loop-i l = record {
  on : l.place ≤ l.i;
  same : (names : Names) → shown l.self l.place names ≡ shown l.self l.i names;
}

abbrev pub decreases-loop-i : goal.decreases-loop-i
decreases-loop-i l = length l.self.tokens - l.i
