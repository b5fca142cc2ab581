use Rattle.wat_c.proofs.compiling.wat_check.Goals as goal

pub returns-clause-one : goal.returns-clause-one
returns-clause-one c = c.one_check.ensures c.args.names c.args.text.now c.args.out.now
