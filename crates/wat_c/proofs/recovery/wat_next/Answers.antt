use Rattle.std.proofs.Common.{sym, subst}
use Rattle.wat_lex.specs.tokens.Unclosed.{AreMarks}
use Rattle.wat_c_records.specs.Rows.{FoundAt, setting}
use Rattle.wat_c.specs.Resuming.{GoesOnAt}
use Rattle.wat_c.proofs.recovery.wat_next.Goals as goal

pub step_at-requires-clause-marks : goal.step_at-requires-clause-marks
step_at-requires-clause-marks c =
    subst (λ text. AreMarks (setting text c.args.allow c.args.strict) c.args.marks.now) (sym c.from_utf8_unchecked-text.ensures) c.requires.marks

pub returns-clause-one : goal.returns-clause-one
returns-clause-one c = λ row h.
    c.step_at.ensures.one row (subst (λ text. FoundAt (setting text c.args.allow c.args.strict) c.args.pos row) (sym c.from_utf8_unchecked-text.ensures) h)

pub returns-clause-one_next : goal.returns-clause-one_next
returns-clause-one_next c = λ place h.
    c.step_at.ensures.one_next place (subst (λ text. GoesOnAt (setting text c.args.allow c.args.strict) c.args.pos place) (sym c.from_utf8_unchecked-text.ensures) h)

pub returns-clause-marks : goal.returns-clause-marks
returns-clause-marks c =
    subst (λ text. AreMarks (setting text c.args.allow c.args.strict) c.step_at.new.marks) c.from_utf8_unchecked-text.ensures c.step_at.ensures.marks
