use Rattle.std.proofs.Common.{◌-◌, ◌≤◌, length}
use Rattle.wat_lexer_parser.proofs.calls.Beginnings.{Played}
use Rattle.wat_lexer_parser.proofs.parser.calls.replay.Given as goal

abbrev pub invariant-loop-i : goal.invariant-loop-i
invariant-loop-i l = record {
  within : l.i ≤ length l.calls;
  played : Played l.initial.parser l.calls l.i l.replies.items l.parser;
}

abbrev pub decreases-loop-i : goal.decreases-loop-i
decreases-loop-i l = length l.calls - l.i
