use Rattle.std.proofs.Common.{◌∙◌, Ok, ap, sym, ◌∷◌}
use Rattle.wat_module_tokens.specs.TokenCursor.{terminals_of}
use Rattle.wat_module_instructions.specs.Machine.{Body}
use Rattle.wat_module_instructions.specs.Parts.{scope_of}
use Rattle.wat_module_instructions.proofs.Steps.{begun, begun_into, enough}
use Rattle.wat_module_instructions.proofs.machine.instructions.Goals as goal

pub returns-in-Ok : goal.returns-in-Ok
returns-in-Ok c =
    begun (scope_of c.args.scope.now) c.push.new.self _ _ _ c.in_ok-out.out.items _ (c.in_ok-push.ensures ∙ ap (λ ps. Body ∷ ps) c.new-frames.ensures) c.in_ok-out.ensures.items (enough (terminals_of c.args.cursor)) c.in-Ok.ensures
    ∙ ap (λ is. Ok (is, terminals_of c.in-Ok.rest)) (sym c.shrink_to_fit.ensures.items)

pub returns : goal.returns
returns c =
    begun_into (scope_of c.args.scope.now) c.push.new.self _ _ _ (c.in_ok-push.ensures ∙ ap (λ ps. Body ∷ ps) c.new-frames.ensures) (enough (terminals_of c.args.cursor)) c.in-Err.ensures
