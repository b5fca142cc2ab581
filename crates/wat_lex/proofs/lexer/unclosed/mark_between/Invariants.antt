use Rattle.std.proofs.Common.{◌≢◌, ◌≤◌, ◌+◌, ◌-◌, length, drop, get_or}
use Rattle.wat_lex.specs.inside.Closings.{ClosesAtMost}
use Rattle.wat_lex.specs.tokens.Unclosed.{AreMarks}
use Rattle.wat_lex.proofs.lexer.unclosed.mark_between.Given as goal

abbrev pub invariant-loop-at : goal.invariant-loop-at
invariant-loop-at l = record {
  range : l.at ≤ length l.lexer.text;
  next : ClosesAtMost l.next (drop l.at l.lexer.text);
  after : get_or l.lexer.text l.at 0 ≢ 40 → ClosesAtMost l.after (drop (l.at + 1) l.lexer.text);
  few : (l.next ≤ length l.lexer.text - l.at) × (l.after ≤ length l.lexer.text - l.at);
  used : l.used ≤ length l.marks;
  marks : AreMarks l.lexer l.marks;
}

abbrev pub decreases-loop-at : goal.decreases-loop-at
decreases-loop-at l = l.at
