use Rattle.std.proofs.Common.{◌≤◌, ◌-◌, length}
use Rattle.wat_lex.specs.inside.Blocks.{IsLeadless}
use Rattle.wat_lex.proofs.lexer.scan.comments.first_lead.Given as goal

abbrev pub invariant-loop-i : goal.invariant-loop-i
invariant-loop-i l = record {
  range : l.i ≤ length l.text;
  before : IsLeadless l.text l.i;
}

abbrev pub decreases-loop-i : goal.decreases-loop-i
decreases-loop-i l = length l.text - l.i
