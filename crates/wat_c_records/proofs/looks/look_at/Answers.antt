use Rattle.wat_c_records.specs.Looks.{names_of}
use Rattle.wat_c_records.proofs.Looking.{looks_before}
use Rattle.wat_c_records.proofs.looks.look_at.Goals as goal

pub returns-in-Answer-clause-looks : goal.returns-in-Answer-clause-looks
returns-in-Answer-clause-looks c = λ s e are.
    looks_before s (names_of c.args.names.now c.args.ends.now) c.args.place c.rows.number c.in-Answer.answer c.rows.invariant.on (c.rows.invariant.same s e are)
    (c.in-Answer.ensures.steps s e are)
