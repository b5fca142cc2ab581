use Rattle.std.proofs.Common.{◌≡◌, drop, map}
use Rattle.std.specs.List.{flat_map}
use Rattle.wat_module_ast.specs.Views.{expression_of}
use Rattle.wat_valid.specs.ContextViews.{marked}
use Rattle.wat_valid.specs.Modules.{expression_refs}
use Rattle.wat_valid.proofs.context.mark_expressions.Given as goal

abbrev pub invariant-loop-expression : goal.invariant-loop-expression
invariant-loop-expression l = marked (flat_map expression_refs (map expression_of l.expressions)) l.fn.declared ≡ marked (flat_map expression_refs (map expression_of (drop l.expression-index l.expressions))) l.declared
