-- WebAssembly 2.0, 6.6.3 (text format, type uses): the types of a module. They are those that its fields define,
-- followed by those that inline type uses add, which are type uses without an index.
use Rattle.std.specs.Prelude.{ℕ, suc, Bool, true, false, List, [], ◌∷◌, ◌++◌, map, Option, Some, None, if◌then◌else◌}
use Rattle.std.specs.List.{flat_map}
use Rattle.wat_module_ast.specs.Types.{FunctionType, added_types, same_type}
use Rattle.wat_module_ast.specs.Uses.{expression_types}
use Rattle.wat_module_ast.specs.Fields.{ExternType, FuncType, OfTable, OfMemory, OfGlobal, Field, Func, Table, Memory, Global, Start, definition_type, definitions_of, ElemMode, Passive, Active, Declarative, Elements, Target}
use Rattle.wat_module_ast.specs.Fields as field

-- 6.6.3: the least index of a type in a list, or the length of the list if it is not in it.
abbrev pub type_index : FunctionType → List FunctionType → ℕ
type_index t [] = 0
type_index t (u ∷ us) = if same_type u t then 0 else suc (type_index t us)

-- Returns `true` if the type is in the list.
abbrev pub has_type : FunctionType → List FunctionType → Bool
has_type t [] = false
has_type t (u ∷ us) = if same_type u t then true else has_type t us

-- The types `ts`, with `t` appended if it is not among them.
abbrev pub with_type : List FunctionType → FunctionType → List FunctionType
with_type ts t = if has_type t ts then ts else ts ++ t ∷ []

-- 6.1.2, 6.6.3: the types `ts`, with each further type appended in order if it is not yet among them.
abbrev pub types_after : List FunctionType → List FunctionType → List FunctionType
types_after ts [] = ts
types_after ts (u ∷ us) = types_after (with_type ts u) us

-- The types that the offset of a data segment adds, if it is active.
abbrev pub target_types : Option Target → List FunctionType
target_types None = []
target_types (Some t) = expression_types t.offset

-- The types that the inline elements of a table add, if it has any.
abbrev pub elements_types : Option Elements → List FunctionType
elements_types None = []
elements_types (Some es) = flat_map expression_types es

-- The types that the offset of an element segment adds, if it is active.
abbrev pub mode_types : ElemMode → List FunctionType
mode_types (Active t) = expression_types t.offset
mode_types Passive = []
mode_types Declarative = []

-- The type that an import description adds: that of a function.
abbrev pub extern_types : ExternType → List FunctionType
extern_types (FuncType u) = added_types u
extern_types (OfTable t) = []
extern_types (OfMemory l) = []
extern_types (OfGlobal t) = []

-- 6.6.3: the types that a field adds, in order of appearance: the type of an imported function; the type of a function,
-- followed by those of its instructions; and those of every other expression, an offset before elements.
abbrev pub field_types : Field → List FunctionType
field_types (field.TypeField l t) = []
field_types (field.Import m n l ns t) = extern_types t
field_types (Func f) = added_types f.uses ++ expression_types f.body
field_types (Table l ns t es) = elements_types es
field_types (Memory l ns t bytes) = []
field_types (Global l ns t is) = expression_types is
field_types (field.Export n s i) = []
field_types (Start i) = []
field_types (field.Elem l m t es) = mode_types m ++ flat_map expression_types es
field_types (field.Data l t bytes) = target_types t

-- 6.6.3: the types that fields define, followed by those that type uses add, in the order of the text. An added
-- type that is already there is not added again.
unfoldable pub types_of : List Field → List FunctionType
types_of fs = types_after (map definition_type (definitions_of fs)) (flat_map field_types fs)
