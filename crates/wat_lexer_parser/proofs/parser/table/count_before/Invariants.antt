use Rattle.std.proofs.Common.{◌<◌, ◌≤◌, ◌-◌, ℕ, length, get_or}
use Rattle.wat_lexer_parser.proofs.parser.table.count_before.Given as goal

abbrev pub invariant-loop-i : goal.invariant-loop-i
invariant-loop-i l = record {
  within : l.i ≤ length l.opens;
  below : (g : ℕ) → g < l.i → get_or l.opens g 0 < l.place;
}

abbrev pub decreases-loop-i : goal.decreases-loop-i
decreases-loop-i l = length l.opens - l.i
