use Rattle.std.proofs.Common.{◌∙◌, ap, sym}
use Rattle.std.specs.Prelude.{Ok, Err}
use Rattle.wat_tokens_run.proofs.RunLaws.{plays, unit_of}
use Rattle.wat_tokens_run.proofs.run.run_play.Goals as goal

pub returns-in-Ok : goal.returns-in-Ok
returns-in-Ok g c = plays c.run.result (unit_of (Ok c.in-Ok.field-0)) c.run.ensures (sym (ap unit_of c.in-Ok.is))

pub returns : goal.returns
returns g c = plays c.run.result (Err c.from.result) c.run.ensures (ap Err c.from.ensures ∙ sym (ap unit_of c.in-Err.is))
