use Rattle.wat_c.proofs.printing.wat_print.Goals as goal

pub returns-clause-one : goal.returns-clause-one
returns-clause-one c = c.one_print.ensures c.args.text.now c.args.message.now c.args.file.now c.args.offset c.args.out.now
