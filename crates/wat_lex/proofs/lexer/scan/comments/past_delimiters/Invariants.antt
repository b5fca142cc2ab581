use Rattle.std.proofs.Common.{◌≡◌, ◌≤◌, ◌<◌, ◌+◌, ◌-◌, length, drop}
use Rattle.wat_lex.specs.inside.Nesting.{Reaches, delimits, passing}
use Rattle.wat_lex.proofs.lexer.scan.comments.past_delimiters.Given as goal

abbrev pub invariant-loop-found : goal.invariant-loop-found
invariant-loop-found l = record {
  some : 0 < l.level;
  few : l.level ≤ l.i + 1;
  on : l.from ≤ l.i;
  range : l.i ≤ l.from + 17;
  mask : l.found ≡ passing (delimits l.text) l.i (l.from + 16 - l.i);
  reaches : Reaches l.text l.level (drop l.i l.text);
}

abbrev pub decreases-loop-found : goal.decreases-loop-found
decreases-loop-found l = length l.text - l.i
