-- The instructions with a rule of their own have no type in the list of types.
use Rattle.std.proofs.Common.{◌≡◌, Bool, true, false, Option, Some, None, refl}
use Rattle.wat_module_ast.specs.declared.instruction.Opcode.TheVariants.{Byte, Prefixed}
use Rattle.wat_valid.specs.InstructionTypes.{Typing}
use Rattle.wat_valid.specs.InstructionTypes as types
use Rattle.wat_valid.specs.Instructions.{typing_of}

abbrev pub is_own : Option Typing → Bool
is_own None = true
is_own (Some types.Own) = true
is_own (Some k) = false

pub own_00 : is_own (typing_of (Byte 0x00)) ≡ true
unfolding typing_of types.typed_instructions types.low types.high types.prefixed types.low_vectors types.high_vectors
own_00 = refl

pub own_0C : is_own (typing_of (Byte 0x0C)) ≡ true
unfolding typing_of types.typed_instructions types.low types.high types.prefixed types.low_vectors types.high_vectors
own_0C = refl

pub own_0D : is_own (typing_of (Byte 0x0D)) ≡ true
unfolding typing_of types.typed_instructions types.low types.high types.prefixed types.low_vectors types.high_vectors
own_0D = refl

pub own_0E : is_own (typing_of (Byte 0x0E)) ≡ true
unfolding typing_of types.typed_instructions types.low types.high types.prefixed types.low_vectors types.high_vectors
own_0E = refl

pub own_0F : is_own (typing_of (Byte 0x0F)) ≡ true
unfolding typing_of types.typed_instructions types.low types.high types.prefixed types.low_vectors types.high_vectors
own_0F = refl

pub own_10 : is_own (typing_of (Byte 0x10)) ≡ true
unfolding typing_of types.typed_instructions types.low types.high types.prefixed types.low_vectors types.high_vectors
own_10 = refl

pub own_11 : is_own (typing_of (Byte 0x11)) ≡ true
unfolding typing_of types.typed_instructions types.low types.high types.prefixed types.low_vectors types.high_vectors
own_11 = refl

pub own_1A : is_own (typing_of (Byte 0x1A)) ≡ true
unfolding typing_of types.typed_instructions types.low types.high types.prefixed types.low_vectors types.high_vectors
own_1A = refl

pub own_1B : is_own (typing_of (Byte 0x1B)) ≡ true
unfolding typing_of types.typed_instructions types.low types.high types.prefixed types.low_vectors types.high_vectors
own_1B = refl

pub own_1C : is_own (typing_of (Byte 0x1C)) ≡ true
unfolding typing_of types.typed_instructions types.low types.high types.prefixed types.low_vectors types.high_vectors
own_1C = refl

pub own_20 : is_own (typing_of (Byte 0x20)) ≡ true
unfolding typing_of types.typed_instructions types.low types.high types.prefixed types.low_vectors types.high_vectors
own_20 = refl

pub own_21 : is_own (typing_of (Byte 0x21)) ≡ true
unfolding typing_of types.typed_instructions types.low types.high types.prefixed types.low_vectors types.high_vectors
own_21 = refl

pub own_22 : is_own (typing_of (Byte 0x22)) ≡ true
unfolding typing_of types.typed_instructions types.low types.high types.prefixed types.low_vectors types.high_vectors
own_22 = refl

pub own_23 : is_own (typing_of (Byte 0x23)) ≡ true
unfolding typing_of types.typed_instructions types.low types.high types.prefixed types.low_vectors types.high_vectors
own_23 = refl

pub own_24 : is_own (typing_of (Byte 0x24)) ≡ true
unfolding typing_of types.typed_instructions types.low types.high types.prefixed types.low_vectors types.high_vectors
own_24 = refl

pub own_25 : is_own (typing_of (Byte 0x25)) ≡ true
unfolding typing_of types.typed_instructions types.low types.high types.prefixed types.low_vectors types.high_vectors
own_25 = refl

pub own_26 : is_own (typing_of (Byte 0x26)) ≡ true
unfolding typing_of types.typed_instructions types.low types.high types.prefixed types.low_vectors types.high_vectors
own_26 = refl

pub own_D0 : is_own (typing_of (Byte 0xD0)) ≡ true
unfolding typing_of types.typed_instructions types.low types.high types.prefixed types.low_vectors types.high_vectors
own_D0 = refl

pub own_D1 : is_own (typing_of (Byte 0xD1)) ≡ true
unfolding typing_of types.typed_instructions types.low types.high types.prefixed types.low_vectors types.high_vectors
own_D1 = refl

pub own_D2 : is_own (typing_of (Byte 0xD2)) ≡ true
unfolding typing_of types.typed_instructions types.low types.high types.prefixed types.low_vectors types.high_vectors
own_D2 = refl

pub own_FC_8 : is_own (typing_of (Prefixed 0xFC 8)) ≡ true
unfolding typing_of types.typed_instructions types.low types.high types.prefixed types.low_vectors types.high_vectors
own_FC_8 = refl

pub own_FC_9 : is_own (typing_of (Prefixed 0xFC 9)) ≡ true
unfolding typing_of types.typed_instructions types.low types.high types.prefixed types.low_vectors types.high_vectors
own_FC_9 = refl

pub own_FC_12 : is_own (typing_of (Prefixed 0xFC 12)) ≡ true
unfolding typing_of types.typed_instructions types.low types.high types.prefixed types.low_vectors types.high_vectors
own_FC_12 = refl

pub own_FC_13 : is_own (typing_of (Prefixed 0xFC 13)) ≡ true
unfolding typing_of types.typed_instructions types.low types.high types.prefixed types.low_vectors types.high_vectors
own_FC_13 = refl

pub own_FC_14 : is_own (typing_of (Prefixed 0xFC 14)) ≡ true
unfolding typing_of types.typed_instructions types.low types.high types.prefixed types.low_vectors types.high_vectors
own_FC_14 = refl

pub own_FC_15 : is_own (typing_of (Prefixed 0xFC 15)) ≡ true
unfolding typing_of types.typed_instructions types.low types.high types.prefixed types.low_vectors types.high_vectors
own_FC_15 = refl

pub own_FC_16 : is_own (typing_of (Prefixed 0xFC 16)) ≡ true
unfolding typing_of types.typed_instructions types.low types.high types.prefixed types.low_vectors types.high_vectors
own_FC_16 = refl

pub own_FC_17 : is_own (typing_of (Prefixed 0xFC 17)) ≡ true
unfolding typing_of types.typed_instructions types.low types.high types.prefixed types.low_vectors types.high_vectors
own_FC_17 = refl
