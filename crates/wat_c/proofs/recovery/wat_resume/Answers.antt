use Rattle.std.proofs.Common.{sym, subst}
use Rattle.wat_c.specs.Resuming.{GoesOnAt}
use Rattle.wat_c_records.specs.Rows.{setting}
use Rattle.wat_c.proofs.recovery.wat_resume.Goals as goal

pub returns-clause-one : goal.returns-clause-one
returns-clause-one c = λ place h.
    c.resume_at.ensures.one place (subst (λ text. GoesOnAt (setting text c.args.allow c.args.strict) c.args.pos place) (sym c.from_utf8_unchecked-text.ensures) h)
