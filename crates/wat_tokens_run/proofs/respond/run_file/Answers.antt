use Rattle.std.proofs.Common.{refl}
use Rattle.wat_tokens_run.specs.Responses.RanFile.{opened, unheaded, unopened}
use Rattle.wat_tokens_run.proofs.respond.run_file.Goals as goal

pub returns-in-Err-clause-ran : goal.returns-in-Err-clause-ran
returns-in-Err-clause-ran g c = unopened c.in-Err.failed c.in-Err.ensures.gives refl refl

pub returns-in-Err-write_head-clause-ran : goal.returns-in-Err-write_head-clause-ran
returns-in-Err-write_head-clause-ran g c = unheaded c.in-Ok.input c.in-Ok.ensures.gives.0 c.in-Err-write_head.ensures

pub returns-clause-ran : goal.returns-clause-ran
returns-clause-ran g c =
    opened c.in-Ok.input c.carry_out.new.input c.write_head.new.output c.in-Ok.ensures.gives.0 c.in-Ok.ensures.gives.1 c.in_default.ensures (rw c.label-label.ensures at c.carry_out.ensures)
