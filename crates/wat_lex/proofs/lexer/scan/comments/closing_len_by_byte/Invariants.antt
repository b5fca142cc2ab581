use Rattle.std.proofs.Common.{◌≤◌, ◌<◌, ◌+◌, ◌-◌, length, drop}
use Rattle.wat_lex.specs.inside.Nesting.{Reaches}
use Rattle.wat_lex.proofs.lexer.scan.comments.closing_len_by_byte.Given as goal

abbrev pub invariant-loop-i : goal.invariant-loop-i
invariant-loop-i l = record {
  some : 0 < l.level;
  few : l.level ≤ l.i + 1;
  range : l.i ≤ length l.text;
  reaches : Reaches l.text l.level (drop l.i l.text);
}

abbrev pub decreases-loop-i : goal.decreases-loop-i
decreases-loop-i l = length l.text - l.i
