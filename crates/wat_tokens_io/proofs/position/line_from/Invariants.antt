use Rattle.std.proofs.Common.{length, ◌-◌, ◌≤◌}
use Rattle.wat_tokens_io.specs.TextLines.{IsLine}
use Rattle.wat_tokens_io.proofs.position.line_from.Given as goal

abbrev pub invariant-loop-line : goal.invariant-loop-line
invariant-loop-line l = record {
  line : IsLine l.text l.line.number l.line.start l.line.end;
  start : l.line.start ≤ l.offset;
}

abbrev pub decreases-loop-line : goal.decreases-loop-line
decreases-loop-line l = length l.text - l.line.end
