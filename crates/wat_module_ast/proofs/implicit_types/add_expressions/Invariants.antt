use Rattle.std.proofs.Common.{◌≡◌, map, drop}
use Rattle.std.specs.List.{flat_map}
use Rattle.wat_module_ast.specs.ImplicitTypes.{types_after}
use Rattle.wat_module_ast.specs.Uses.{expression_types}
use Rattle.wat_module_ast.specs.Views.{expression_of}
use Rattle.wat_module_ast.proofs.implicit_types.add_expressions.Given as goal

abbrev pub invariant-loop-expression : goal.invariant-loop-expression
invariant-loop-expression l = types_after l.fn.types (flat_map expression_types (map expression_of l.expressions)) ≡ types_after l.types (flat_map expression_types (map expression_of (drop l.expression-index l.expressions)))
