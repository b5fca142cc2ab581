use Rattle.wat_c.proofs.by_row.wat_name_of.Goals as goal

pub returns-clause-one : goal.returns-clause-one
returns-clause-one c = c.one_answer_of_row.ensures.names c.args.text.now c.args.row.now c.args.out.now
