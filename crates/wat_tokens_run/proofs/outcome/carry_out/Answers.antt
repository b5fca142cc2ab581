use Rattle.wat_tokens_run.proofs.OutcomeLaws.{ran}
use Rattle.wat_tokens_run.proofs.outcome.carry_out.Goals as goal

pub returns : goal.returns
returns g c = ran c.run.result c.of_run.result c.run.ensures c.of_run.ensures
