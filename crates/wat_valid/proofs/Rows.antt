-- The list of types has the rows of the table of instructions.
use Rattle.std.proofs.Common.{refl}
use Rattle.wat_module_ast.specs.Table as table
use Rattle.wat_valid.specs.InstructionTypes as types
use Rattle.wat_valid.specs.Law.{EachHasAType}

pub each_has_a_type : EachHasAType
unfolding types.typed_instructions types.low types.high types.prefixed types.low_vectors types.high_vectors table.mnemonics table.low table.high table.prefixed table.low_vectors table.high_vectors
each_has_a_type = refl
