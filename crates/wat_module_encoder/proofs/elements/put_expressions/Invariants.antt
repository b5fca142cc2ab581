use Rattle.std.proofs.Common.{◌≡◌, ◌++◌, map, take}
use Rattle.std.specs.List.{flat_map}
use Rattle.wat_module_encoder.specs.Binary.{expression_bytes}
use Rattle.wat_module_ast.specs.Views.{expression_of}
use Rattle.wat_module_encoder.proofs.elements.put_expressions.Given as goal

abbrev pub invariant-loop-expression : goal.invariant-loop-expression
invariant-loop-expression l = l.out.items ≡ l.initial.out.items ++ flat_map (expression_bytes l.types) (map expression_of (take l.expression-index l.expressions))
