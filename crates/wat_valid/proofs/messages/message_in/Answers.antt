use Rattle.std.proofs.Common.{◌≡◌, IfOk, string_bytes, subst}
use Rattle.wat_valid.specs.ContextViews.{body_context}
use Rattle.wat_valid.proofs.LabelSteps.{stopped_message}
use Rattle.wat_valid.proofs.Situations.{missing}
use Rattle.wat_valid.proofs.messages.message_in.Goals as goal

pub returns-in-Err : goal.returns-in-Err
returns-in-Err c =
    let C = body_context c.args.context.now in
    let results = c.args.context.now.results.now in
    subst (λ w. IfOk c.not_valid.result (λ text. string_bytes text ≡ w))
    (stopped_message C c.args.instructions.now results c.args.place.function c.args.place.at c.instructions_before.result.now c.instructions_before.ensures (missing C c.instructions_before.result.now results c.in_ok-frames.field-0 _ c.in-Err.is c.in_ok-frames.ensures.is))
    c.not_valid.ensures
