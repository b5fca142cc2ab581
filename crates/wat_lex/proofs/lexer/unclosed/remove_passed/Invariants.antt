use Rattle.std.proofs.Common.{◌≤◌}
use Rattle.wat_lex.specs.tokens.Unclosed.{AreMarks}
use Rattle.wat_lex.proofs.lexer.unclosed.remove_passed.Given as goal

abbrev pub invariant-loop-left : goal.invariant-loop-left
invariant-loop-left l = (l.left ≤ l.fn.known) × AreMarks l.lexer l.marks

abbrev pub decreases-loop-left : goal.decreases-loop-left
decreases-loop-left l = l.left
