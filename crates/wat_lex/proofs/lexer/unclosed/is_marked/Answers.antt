use Rattle.std.proofs.Common.{sym, subst}
use Rattle.wat_lex.specs.tokens.Unclosed.{AreMarks}
use Rattle.wat_lex.proofs.lexer.unclosed.is_marked.Goals as goal
use Rattle.wat_lex.proofs.lexer.unclosed.is_marked.Goals.{After-count, then-left-known, else-left-known}

marked : (c : After-count) → AreMarks c.args.lexer.now c.if-left-known.marks
marked c = elim c.if-left-known.branch [
  | then-left-known w ↦ subst (AreMarks c.args.lexer.now) (sym w.marks-is) w.mark_between.ensures
  | else-left-known w ↦ subst (AreMarks c.args.lexer.now) (sym w.marks-is) c.remove_passed-left.ensures.marks
]

pub last_marked-requires-clause-marks : goal.last_marked-requires-clause-marks
last_marked-requires-clause-marks c = marked c

pub returns-clause-marks : goal.returns-clause-marks
returns-clause-marks c = marked (goal.at.returns-clause-marks c).After-count
