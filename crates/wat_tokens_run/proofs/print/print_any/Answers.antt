use Rattle.wat_tokens_run.proofs.print.print_any.Goals as goal

pub returns-then-has_names-clause-printed : goal.returns-then-has_names-clause-printed
returns-then-has_names-clause-printed g c = rw c.if-has_names.true c.print_complete.ensures.printed

pub returns-else-has_names-clause-printed : goal.returns-else-has_names-clause-printed
returns-else-has_names-clause-printed g c = rw c.if-has_names.false c.print_unnamed.ensures.printed
