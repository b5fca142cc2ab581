use Rattle.std.proofs.Common.{refl}
use Rattle.wat_tokens_run.proofs.respond.act.Goals as goal

pub returns-in-Run : goal.returns-in-Run
returns-in-Run g c = rw c.in-Run.is c.run_to.ensures

pub returns-in-Format : goal.returns-in-Format
returns-in-Format g c = rw c.in-Format.is (c.run_fmt_all.ensures, refl)
