use Rattle.std.proofs.Common.{map, take}
use Rattle.wat_module_ast.specs.Views.{expression_of}
use Rattle.wat_valid.specs.ContextViews.{context_of}
use Rattle.wat_valid.specs.Modules.{ElementsAreValid}
use Rattle.wat_valid.proofs.code.other_expression.Given as goal

abbrev pub invariant-loop-i : goal.invariant-loop-i
invariant-loop-i l = ElementsAreValid (context_of l.context) l.of (map expression_of (take l.i l.expressions))
