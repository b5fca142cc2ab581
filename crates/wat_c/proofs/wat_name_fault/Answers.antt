use Rattle.wat_c_records.specs.Rows.{setting}
use Rattle.wat_c.proofs.wat_name_fault.Goals as goal

pub returns-clause-one : goal.returns-clause-one
returns-clause-one c = c.one_answer.ensures.name_faults (setting c.args.text.now c.args.allow c.args.strict) c.args.pos c.args.out.now
