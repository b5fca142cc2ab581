-- WebAssembly 2.0, 6.4.5 (function types), 6.1.3 (contexts: types), 6.6.3 (type uses), and 5.3.1 to 5.3.4 (number
-- types, vector types, reference types, value types).
use Rattle.std.specs.Prelude.{ℕ, Bool, true, false, List, [], ◌∷◌, Option, Some, None, ◌==◌, ◌&&◌}
use Rattle.wat_module_ast.specs.declared.instruction.ReferenceType.{ReferenceType}
use Rattle.wat_module_ast.specs.declared.instruction.ReferenceType.TheVariants as reference
use Rattle.wat_module_ast.specs.declared.instruction.ValueType.{ValueType}
use Rattle.wat_module_ast.specs.declared.instruction.ValueType.TheVariants as value
use Rattle.wat_module_tokens.specs.Terminals.{Label}

-- 6.4.5, function type: the types of its parameters and of its results.
pub record FunctionType : Type 0 where
  pub params : List ValueType
  pub results : List ValueType

-- The function type with the parameters `ps` and the results `rs`.
abbrev pub from_to : List ValueType → List ValueType → FunctionType
from_to ps rs = record { params = ps; results = rs }

-- 6.1.3, context: the identifiers of types (`I.types`), and the types (`I.typedefs`). In the context of a module,
-- `are_known` is true. If it is false, no type is looked up: a type use may have any `u32`, or any of the identifiers,
-- as its index, with any parameters and results. The parser needs this to find the types that type uses add (6.6.3).
pub record Types : Type 0 where
  pub names : List Label
  pub types : List FunctionType
  pub are_known : Bool

-- 6.6.3, type use, without the identifiers of its parameters: the index of its type; or, if it has no index, its type.
pub data TypeUse : Type 0 where
  Indexed : ℕ → TypeUse
  Inline : FunctionType → TypeUse

-- The type use with this index, whatever the type; without an index, that of this type.
abbrev pub type_use : Option ℕ → FunctionType → TypeUse
type_use (Some i) t = Indexed i
type_use None t = Inline t

-- 6.6.3: the types that a type use adds: its type if it has no index, otherwise none.
abbrev pub added_types : TypeUse → List FunctionType
added_types (Indexed i) = []
added_types (Inline t) = t ∷ []

-- The index of a type use, or 0 if it has none.
abbrev pub index_or_zero : TypeUse → ℕ
index_or_zero (Indexed i) = i
index_or_zero (Inline t) = 0

-- 6.5.2, `call_indirect`: the index of a table, and a type use.
pub record IndirectCall : Type 0 where
  pub table : ℕ
  pub uses : TypeUse

abbrev pub indirect_call : ℕ → TypeUse → IndirectCall
indirect_call n u = record { table = n; uses = u }

-- 5.3.3, reference type: its byte.
abbrev pub reference_byte : ReferenceType → ℕ
reference_byte reference.Func = 0x70
reference_byte reference.Extern = 0x6F

-- 5.3.4, value type: its byte. Value types are number types (5.3.1), the vector type (5.3.2) and reference types.
abbrev pub type_byte : ValueType → ℕ
type_byte value.I32 = 0x7F
type_byte value.I64 = 0x7E
type_byte value.F32 = 0x7D
type_byte value.F64 = 0x7C
type_byte value.V128 = 0x7B
type_byte (value.Reference t) = reference_byte t

-- Returns `true` if both lists of value types are equal.
abbrev pub same_values : List ValueType → List ValueType → Bool
same_values [] [] = true
same_values (t ∷ ts) (u ∷ us) = (type_byte t == type_byte u) && same_values ts us
same_values ts us = false

-- Returns `true` if both function types have equal parameters and equal results.
abbrev pub same_type : FunctionType → FunctionType → Bool
same_type t u = same_values t.params u.params && same_values t.results u.results
