use Rattle.wat_valid.specs.ContextViews.{body_context}
use Rattle.std.proofs.Common.{take}
use Rattle.wat_valid.proofs.Situations.{found, missing}
use Rattle.wat_valid.proofs.situation.situation_at.Goals as goal

pub returns-in-Err : goal.returns-in-Err
returns-in-Err c = λ l. missing (body_context c.args.context.now) (take c.args.at c.args.instructions.now) c.args.context.now.results.now c.in_ok-frames_after.field-0 _ c.in-Err.is c.in_ok-frames_after.ensures.is

pub returns-in-Ok : goal.returns-in-Ok
returns-in-Ok c = found (body_context c.args.context.now) c.args.instructions.now c.args.context.now.results.now c.args.at c.in_ok-frames_after.field-0 c.in-Ok.frames c.wanted_next-wanted.result c.in-Ok.is c.in_ok-frames_after.ensures.is c.wanted_next-wanted.ensures
