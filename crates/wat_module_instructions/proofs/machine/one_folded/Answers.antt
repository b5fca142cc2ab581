use Rattle.wat_module_tokens.specs.TokenCursor.{terminals_of}
use Rattle.wat_module_instructions.specs.Parts.{scope_of}
use Rattle.wat_module_instructions.proofs.Folding.{begun_folded, begun_folded_into}
use Rattle.wat_module_instructions.proofs.machine.one_folded.Goals as goal

pub returns-in-Ok-steps : goal.returns-in-Ok-steps
returns-in-Ok-steps c =
    begun_folded (scope_of c.args.scope.now) c.first_step.new.frames (terminals_of c.args.cursor) (terminals_of c.in-Ok.rest) (terminals_of c.in-Ok-steps.rest) c.in_ok-out.out.items c.first_step.new.out.items c.steps.new.out.items c.in_ok-out.ensures.items c.in-Ok.ensures c.in-Ok-steps.ensures

pub returns-in-Ok : goal.returns-in-Ok
returns-in-Ok c =
    begun_folded_into (scope_of c.args.scope.now) c.first_step.new.frames (terminals_of c.args.cursor) (terminals_of c.in-Ok.rest) c.in_ok-out.out.items c.first_step.new.out.items c.in-Err-steps.refusal c.in-Ok.ensures c.in-Err-steps.ensures
