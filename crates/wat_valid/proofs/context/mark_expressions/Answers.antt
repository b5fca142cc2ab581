use Rattle.std.proofs.Common.{◌∙◌, ap}
use Rattle.wat_valid.specs.ContextViews.{marked}
use Rattle.wat_valid.specs.Modules.{expression_refs}
use Rattle.wat_valid.proofs.Declared.{expression_marked}
use Rattle.wat_valid.proofs.context.mark_expressions.Goals as goal

pub loop-expression-preserved : goal.loop-expression-preserved
loop-expression-preserved c =
    expression_marked c.args.expressions.now c.expression-item.result _ c.loop-expression.expression-index _ c.loop-expression.declared c.mark_instructions.new.declared c.loop-expression.invariant c.loop-expression-test.true c.expression-item.is
    (c.mark_instructions.ensures ∙ ap (λ is. marked (expression_refs is) c.loop-expression.declared) c.deref.ensures.value)
