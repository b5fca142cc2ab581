use Rattle.std.proofs.Common.{sym, subst}
use Rattle.wat_c_records.specs.Rows.{FoundAt, setting}
use Rattle.wat_c.proofs.wat_scan.Goals as goal

pub returns-clause-one : goal.returns-clause-one
returns-clause-one c = λ row h.
    c.found_at.ensures.one row (subst (λ text. FoundAt (setting text c.args.allow c.args.strict) c.args.pos row) (sym c.from_utf8_unchecked-text.ensures) h)
