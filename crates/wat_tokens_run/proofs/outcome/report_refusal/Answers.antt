use Rattle.std.proofs.Common.{sym, ◌∙◌}
use Rattle.wat_tokens_run.proofs.OutcomeLaws.{refused_named}
use Rattle.wat_tokens_run.proofs.outcome.report_refusal.Goals as goal

pub returns-in-None : goal.returns-in-None
returns-in-None g c = rw c.in-None.is (rw c.from-error.ensures at c.print.ensures)

pub returns-in-Some-2 : goal.returns-in-Some-2
returns-in-Some-2 g c = refused_named c.print-in-Some-2.result c.args.name c.in-Some-2.field-0 c.args.failure _ _ c.in-Some-2.is (sym c.is_closed_output.ensures ∙ c.if-is_closed_output.false) c.print-in-Some-2.ensures
