use Rattle.wat_c_records.specs.Rows.{setting}
use Rattle.wat_c.proofs.formatting.wat_format.Goals as goal

pub returns-clause-one : goal.returns-clause-one
returns-clause-one c = c.one_formatted.ensures (setting c.args.text.now c.args.allow c.args.strict) c.args.out.now
