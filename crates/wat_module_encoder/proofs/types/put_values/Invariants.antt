use Rattle.std.proofs.Common.{◌≡◌, ◌++◌, map, take}
use Rattle.wat_module_ast.specs.Types.{type_byte}
use Rattle.wat_module_encoder.proofs.types.put_values.Given as goal

abbrev pub invariant-loop-of : goal.invariant-loop-of
invariant-loop-of l = l.out.items ≡ l.initial.out.items ++ map type_byte (take l.of-index l.types)
