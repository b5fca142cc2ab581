use Rattle.wat_tokens_run.proofs.RunLaws.{forget}
use Rattle.wat_tokens_run.proofs.run.run_sig.Goals as goal

pub returns : goal.returns
returns g c = rw c.without_cause.ensures (forget c.run.result c.run.ensures)
