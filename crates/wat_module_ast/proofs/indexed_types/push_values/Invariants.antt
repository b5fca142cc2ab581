use Rattle.std.proofs.Common.{◌≡◌, ◌++◌, map, take}
use Rattle.wat_module_ast.specs.Types.{type_byte}
use Rattle.wat_module_ast.proofs.indexed_types.push_values.Given as goal

abbrev pub invariant-loop-of : goal.invariant-loop-of
invariant-loop-of l = l.key.items ≡ l.fn.key.items ++ map type_byte (take l.of-index l.types)
