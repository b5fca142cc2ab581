use Rattle.wat_tokens_run.specs.Responses.RanInto.{into}
use Rattle.wat_tokens_run.proofs.respond.run_into.Goals as goal

pub returns : goal.returns
returns g c =
    into c.in-Ok.output c.run_file-outcome.new.output c.run_file-outcome.result c.in-Ok.ensures.0 c.in-Ok.ensures.1 (c.run_file-outcome.ensures.opened, c.run_file-outcome.ensures.ran) c.reported-2.ensures
