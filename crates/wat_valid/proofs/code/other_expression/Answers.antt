use Rattle.std.proofs.Common.{List, sym, subst}
use Rattle.wat_module_ast.specs.declared.instruction.Instruction.{Instruction}
use Rattle.wat_module_ast.specs.declared.instruction.ValueType.TheVariants as value
use Rattle.wat_module_ast.specs.Views.{expression_of}
use Rattle.wat_valid.specs.ContextViews.{context_of}
use Rattle.wat_valid.specs.Instructions.{Constant}
use Rattle.wat_valid.proofs.FirstInvalid.{first_element, not_from}
use Rattle.wat_valid.proofs.code.other_expression.Goals as goal

pub returns-then-not-is_constant : goal.returns-then-not-is_constant
returns-then-not-is_constant c =
    let C = context_of c.args.context.now in
    first_element C c.args.of expression_of c.args.expressions.now c.index-expressions-i.result _ c.loop-i.i c.loop-i-test.true c.index-expressions-i.is c.loop-i.invariant
    (λ k. not_from c.is_constant.result _ c.is_constant.ensures c.if-not-is_constant.true (subst (λ (is : List Instruction). Constant C is (value.Reference c.args.of)) (sym c.deref.ensures.value) k))
