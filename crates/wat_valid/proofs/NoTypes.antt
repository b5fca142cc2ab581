-- `block`, `loop`, `if`, `else` and `end` are not in the list of types.
use Rattle.std.proofs.Common.{◌≡◌, None, refl}
use Rattle.wat_module_ast.specs.declared.instruction.Opcode.TheVariants.{Byte}
use Rattle.wat_valid.specs.InstructionTypes as types
use Rattle.wat_valid.specs.Instructions.{typing_of}

pub none_02 : typing_of (Byte 0x02) ≡ None
unfolding typing_of types.typed_instructions types.low types.high types.prefixed types.low_vectors types.high_vectors
none_02 = refl

pub none_03 : typing_of (Byte 0x03) ≡ None
unfolding typing_of types.typed_instructions types.low types.high types.prefixed types.low_vectors types.high_vectors
none_03 = refl

pub none_04 : typing_of (Byte 0x04) ≡ None
unfolding typing_of types.typed_instructions types.low types.high types.prefixed types.low_vectors types.high_vectors
none_04 = refl

pub none_05 : typing_of (Byte 0x05) ≡ None
unfolding typing_of types.typed_instructions types.low types.high types.prefixed types.low_vectors types.high_vectors
none_05 = refl

pub none_0B : typing_of (Byte 0x0B) ≡ None
unfolding typing_of types.typed_instructions types.low types.high types.prefixed types.low_vectors types.high_vectors
none_0B = refl
