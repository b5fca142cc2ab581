-- WebAssembly 2.0, 3.1.1 (validation, contexts), 3.3 (operand types: value types and the type ⊥, which matches each
-- type), and the types of type uses. Section numbers in this crate are those of WebAssembly 2.0. The rules are those of
-- chapter 3; each is a constructor or a case of its own, with its section.
use Rattle.std.specs.Prelude.{◌≡◌, ℕ, List, [], ◌∷◌, ◌++◌, map, Option, Some, slice_get}
use Rattle.wat_module_ast.specs.declared.fields.GlobalType.{GlobalType}
use Rattle.wat_module_ast.specs.declared.fields.Limits.{Limits}
use Rattle.wat_module_ast.specs.declared.fields.TableType.{TableType}
use Rattle.wat_module_ast.specs.declared.instruction.ReferenceType.{ReferenceType}
use Rattle.wat_module_ast.specs.declared.instruction.ValueType.{ValueType}
use Rattle.wat_module_ast.specs.Types.{FunctionType, TypeUse, Indexed, Inline}
use Rattle.wat_valid.specs.declared.operands.OperandType.{OperandType}
use Rattle.wat_valid.specs.declared.operands.OperandType.TheVariants as operand

-- 3.1.1, context: the types of the module; the types of its functions, tables, memories, globals and element segments,
-- each in the order of their indices; the number of its data segments; the types of the function's parameters and
-- locals; the result type of the function (`return`), if the instructions are those of a function; and the indices of
-- the functions to which `ref.func` may refer (`refs`). The labels of the standard's context are an index of the
-- relations that need them.
pub record Context : Type 0 where
  pub types : List FunctionType
  pub funcs : List FunctionType
  pub tables : List TableType
  pub mems : List Limits
  pub globals : List GlobalType
  pub elems : List ReferenceType
  pub datas : ℕ
  pub locals : List ValueType
  pub returns : Option (List ValueType)
  pub refs : List ℕ

-- 3.1.1, `labels`: the result types of the labels of the open blocks, the innermost first.
abbrev pub Labels : Type 0
Labels = List (List ValueType)

-- 3.3: these value types, as operand types.
abbrev pub values : List ValueType → List OperandType
values ts = map operand.Value ts

-- 3.3: one operand type matches another (`t ≤ u`): both are equal, or the first is ⊥.
abbrev pub Matches : OperandType → OperandType → Type 0
Matches operand.Bottom u = Unit {0}
Matches (operand.Value t) u = operand.Value t ≡ u

-- 3.3: the operand types of one list match those of another, one by one.
abbrev pub AllMatch : List OperandType → List OperandType → Type 0
AllMatch [] [] = Unit {0}
AllMatch (t ∷ ts) (u ∷ us) = Matches t u × AllMatch ts us
AllMatch ts us = ⊥

-- 3.3.9: operands change from `us` to `vs` by an instruction that replaces operands at the end of `us`, which match `ps`, by
-- operands of the types `rs`. The operands below them stay.
pub record Replaces (ps rs us vs : List OperandType) : Type 0 where
  pub below : List OperandType
  pub taken : List OperandType
  pub before : us ≡ below ++ taken
  pub match : AllMatch taken ps
  pub after : vs ≡ below ++ rs

-- 6.6.3, 3.2.2: the function type of a type use: the one at its index, if there is one; or the type that it lists.
abbrev pub use_type : List FunctionType → TypeUse → Option FunctionType
use_type types (Indexed i) = slice_get types i
use_type types (Inline t) = Some t
