use Rattle.wat_c.proofs.compiling.wat_compile.Goals as goal

pub returns-clause-one : goal.returns-clause-one
returns-clause-one c = c.one_binary.ensures c.args.names c.args.text.now c.args.out.now
