use Rattle.std.proofs.Common.{◌≡◌, drop}
use Rattle.std.specs.List.{flat_map}
use Rattle.wat_module_ast.specs.ImplicitTypes.{types_after}
use Rattle.wat_module_ast.specs.Uses.{instruction_types}
use Rattle.wat_module_ast.proofs.implicit_types.add_instructions.Given as goal

abbrev pub invariant-loop-instruction : goal.invariant-loop-instruction
invariant-loop-instruction l = types_after l.fn.types (flat_map instruction_types l.all) ≡ types_after l.types (flat_map instruction_types (drop l.instruction-index l.all))
