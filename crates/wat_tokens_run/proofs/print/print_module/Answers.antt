use Rattle.wat_tokens_run.proofs.print.print_module.Goals as goal

pub returns-then-options-clause-printed : goal.returns-then-options-clause-printed
returns-then-options-clause-printed g c = rw c.if-options.true c.print_checked.ensures.printed

pub returns-else-options-clause-printed : goal.returns-else-options-clause-printed
returns-else-options-clause-printed g c = rw c.if-options.false c.print_any.ensures.printed
