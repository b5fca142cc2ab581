use Rattle.std.proofs.Common.{◌∙◌, ap}
use Rattle.wat_module_ast.specs.ImplicitTypes.{types_after}
use Rattle.wat_module_ast.specs.Uses.{expression_types}
use Rattle.wat_module_ast.proofs.FunctionTypes.{expression_used}
use Rattle.wat_module_ast.proofs.implicit_types.add_expressions.Goals as goal

pub loop-expression-preserved : goal.loop-expression-preserved
loop-expression-preserved c =
    expression_used c.args.expressions.now c.expression-item.result _ c.loop-expression.expression-index _ c.loop-expression.types c.add_instructions.new.types c.loop-expression.invariant c.loop-expression-test.true c.expression-item.is
    (c.in_ok-add_instructions.ensures ∙ ap (λ is. types_after c.loop-expression.types (expression_types is)) c.deref.ensures.value)
