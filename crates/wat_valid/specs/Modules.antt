-- WebAssembly 2.0, 3.2 (validation, types): 3.2.1 limits, 3.2.4 table types, 3.2.5 memory types, 3.2.7 external types; and
-- 3.4 (modules): 3.4.1 functions, 3.4.2 tables, 3.4.3 memories, 3.4.4 globals, 3.4.5 element segments, 3.4.6 data segments,
-- 3.4.7 start function, 3.4.8 exports, 3.4.9 imports, 3.4.10 modules. A module is given by its fields in the order of the
-- text, in which imports precede definitions (6.6.13), so that the order of the fields is that of the indices. A table
-- with inline elements has an element segment as well, and a memory with inline data a data segment (6.6.6, 6.6.7).
use Rattle.std.specs.Prelude.{◌≡◌, ◌<◌, ◌≤◌, ℕ, true, List, [], ◌∷◌, ◌++◌, length, map, Option, Some, None, slice_get, if◌then◌else◌, ◌==◌}
use Rattle.std.specs.List.{AllByRecursion, flat_map}
use Rattle.wat_module_ast.specs.declared.fields.GlobalType.{GlobalType}
use Rattle.wat_module_ast.specs.declared.fields.IndexSpace.{IndexSpace}
use Rattle.wat_module_ast.specs.declared.fields.IndexSpace.TheVariants as space
use Rattle.wat_module_ast.specs.declared.fields.Limits.{Limits}
use Rattle.wat_module_ast.specs.declared.fields.TableType.{TableType}
use Rattle.wat_module_ast.specs.declared.instruction.Argument.{Argument}
use Rattle.wat_module_ast.specs.declared.instruction.Argument.TheVariants as argument
use Rattle.wat_module_ast.specs.declared.instruction.Instruction.{Instruction}
use Rattle.wat_module_ast.specs.declared.instruction.Opcode.{Opcode}
use Rattle.wat_module_ast.specs.declared.instruction.Opcode.TheVariants.{Byte}
use Rattle.wat_module_ast.specs.declared.instruction.ReferenceType.{ReferenceType}
use Rattle.wat_module_ast.specs.declared.instruction.ValueType.{ValueType}
use Rattle.wat_module_ast.specs.declared.instruction.ValueType.TheVariants as value
use Rattle.wat_module_ast.specs.Fields.{ElemMode, Passive, Active, Declarative, Elements, ExternType, FuncType, OfTable, OfMemory, OfGlobal, Field, TypeField, Func, Table, Memory, Global, Start, Function, Target, bindings_of, datas_of, extern_space, is_import, names_in}
use Rattle.wat_module_ast.specs.Fields as field
use Rattle.wat_module_ast.specs.ImplicitTypes.{types_of}
use Rattle.wat_module_ast.specs.Names.{are_distinct}
use Rattle.wat_module_ast.specs.Types.{FunctionType, from_to}
use Rattle.wat_valid.specs.Contexts.{Context, use_type}
use Rattle.wat_valid.specs.Instructions.{Constant, Expression}

-- 3.2.1, limits within the range `k`: neither the minimum nor the maximum is above `k`, nor the minimum above the maximum.
abbrev pub MaximumIsValid : ℕ → ℕ → Option ℕ → Type 0
MaximumIsValid k min None = Unit {0}
MaximumIsValid k min (Some max) = (max ≤ k) × (min ≤ max)

pub record LimitsAreValid (k : ℕ) (l : Limits) : Type 0 where
  pub minimum : l.min ≤ k
  pub maximum : MaximumIsValid k l.min l.max

-- 3.2.4, table types: limits within the range 2^32 - 1.
abbrev pub TableIsValid : TableType → Type 0
TableIsValid t = LimitsAreValid 4294967295 t.limits

-- 3.2.5, memory types: limits within the range 2^16.
abbrev pub MemoryIsValid : Limits → Type 0
MemoryIsValid l = LimitsAreValid 65536 l

-- The function type of an external type, and so on: the types of the functions, tables, memories and globals that a field
-- imports or defines. The type of a function whose type use has no type in `types` is not in the list; such a field is
-- not valid.
abbrev pub type_list : Option FunctionType → List FunctionType
type_list None = []
type_list (Some t) = t ∷ []

abbrev pub extern_funcs : List FunctionType → ExternType → List FunctionType
extern_funcs types (FuncType u) = type_list (use_type types u)
extern_funcs types t = []

abbrev pub funcs_in : List FunctionType → Field → List FunctionType
funcs_in types (field.Import m n l ns t) = extern_funcs types t
funcs_in types (Func f) = type_list (use_type types f.uses)
funcs_in types f = []

abbrev pub extern_tables : ExternType → List TableType
extern_tables (OfTable t) = t ∷ []
extern_tables t = []

abbrev pub tables_in : Field → List TableType
tables_in (field.Import m n l ns t) = extern_tables t
tables_in (Table l ns t es) = t ∷ []
tables_in f = []

abbrev pub extern_mems : ExternType → List Limits
extern_mems (OfMemory l) = l ∷ []
extern_mems t = []

abbrev pub mems_in : Field → List Limits
mems_in (field.Import m n l ns t) = extern_mems t
mems_in (Memory l ns t bytes) = t ∷ []
mems_in f = []

abbrev pub extern_globals : ExternType → List GlobalType
extern_globals (OfGlobal t) = t ∷ []
extern_globals t = []

-- 3.4.10: the globals that a field imports, and those that it defines.
abbrev pub imported_globals_in : Field → List GlobalType
imported_globals_in (field.Import m n l ns t) = extern_globals t
imported_globals_in f = []

abbrev pub defined_globals_in : Field → List GlobalType
defined_globals_in (Global l ns t is) = t ∷ []
defined_globals_in f = []

-- 3.4.5: the types of the element segments that a field defines.
abbrev pub elems_in : Field → List ReferenceType
elems_in (field.Elem l m t es) = t ∷ []
elems_in (Table l ns t (Some es)) = t.element ∷ []
elems_in f = []

-- 3.4.10, `funcidx(..)`: the indices of functions that occur in an instruction, in instructions, and in the module except
-- its functions and its start function. 3.3.10: among constant instructions only `ref.func` has one.
abbrev pub argument_refs : Opcode → Argument → List ℕ
argument_refs (Byte o) (argument.Index x) = if o == 0xD2 then x ∷ [] else []
argument_refs o a = []

abbrev pub instruction_refs : Instruction → List ℕ
instruction_refs i = argument_refs i.opcode i.argument

abbrev pub expression_refs : List Instruction → List ℕ
expression_refs is = flat_map instruction_refs is

abbrev pub target_refs : Option Target → List ℕ
target_refs None = []
target_refs (Some t) = expression_refs t.offset

abbrev pub mode_refs : ElemMode → List ℕ
mode_refs (Active t) = expression_refs t.offset
mode_refs Passive = []
mode_refs Declarative = []

abbrev pub elements_refs : Option Elements → List ℕ
elements_refs None = []
elements_refs (Some es) = flat_map expression_refs es

-- The index `n`, if there is an export.
abbrev pub exported : ℕ → List (List ℕ) → List ℕ
exported n [] = []
exported n (name ∷ names) = n ∷ []

abbrev pub export_refs : IndexSpace → ℕ → List ℕ
export_refs space.Func i = i ∷ []
export_refs s i = []

-- The index of a function that is imported or defined after `n` functions is `n` (6.6.1).
abbrev pub import_refs : ℕ → List (List ℕ) → ExternType → List ℕ
import_refs n names (FuncType u) = exported n names
import_refs n names t = []

abbrev pub field_refs : ℕ → Field → List ℕ
field_refs n (TypeField l t) = []
field_refs n (field.Import m a l names t) = import_refs n names t
field_refs n (Func f) = exported n f.exports
field_refs n (Table l names t es) = elements_refs es
field_refs n (Memory l names t bytes) = []
field_refs n (Global l names t is) = expression_refs is
field_refs n (field.Export name s i) = export_refs s i
field_refs n (Start i) = []
field_refs n (field.Data l t bytes) = target_refs t
field_refs n (field.Elem l m t es) = mode_refs m ++ flat_map expression_refs es

-- The number of functions that fields import or define.
abbrev pub function_count : List Field → ℕ
function_count fs = length (names_in space.Func (bindings_of fs))

-- The indices of functions that occur in fields after the fields `before`, except in functions and start fields.
abbrev pub refs_after : List Field → List Field → List ℕ
refs_after before [] = []
refs_after before (f ∷ fs) = field_refs (function_count before) f ++ refs_after (before ++ f ∷ []) fs

-- 3.4.10: the context `C` of a module. In functions it has locals and a result type as well.
abbrev pub context_of : List Field → Context
context_of fs = record {
  types = types_of fs;
  funcs = flat_map (funcs_in (types_of fs)) fs;
  tables = flat_map tables_in fs;
  mems = flat_map mems_in fs;
  globals = flat_map imported_globals_in fs ++ flat_map defined_globals_in fs;
  elems = flat_map elems_in fs;
  datas = length (datas_of fs);
  locals = [];
  returns = None;
  refs = refs_after [] fs;
}

-- 3.4.10: the context `C'` of initial values, offsets and elements: that of the module, with the imported globals alone.
abbrev pub initial_context_of : List Field → Context
initial_context_of fs = record (context_of fs) { globals = flat_map imported_globals_in fs }

-- 3.4.1, function: the context of its body, with its parameters and locals, and its results as result type.
abbrev pub function_context : Context → FunctionType → List ValueType → Context
function_context C t locals = record C { locals = t.params ++ locals; returns = Some t.results }

-- 3.4.1, function: its type exists, and its body leaves its results. Its results are the types of its one label.
pub record FunctionIsValid (C : Context) (f : Function) : Type 0 where
  pub type : FunctionType
  pub uses : use_type C.types f.uses ≡ Some type
  pub body : Expression (function_context C type f.locals) (type.results ∷ []) f.body type.results

-- 3.2.7, 3.4.9: an external type of an import.
abbrev pub ExternIsValid : Context → ExternType → Type 0
ExternIsValid C (FuncType u) = (t : FunctionType) × (use_type C.types u ≡ Some t)
ExternIsValid C (OfTable t) = TableIsValid t
ExternIsValid C (OfMemory l) = MemoryIsValid l
ExternIsValid C (OfGlobal t) = Unit {0}

-- 3.4.5: each of the elements is a constant expression of the type of the segment.
abbrev pub ElementsAreValid : Context → ReferenceType → Elements → Type 0
ElementsAreValid C t es = AllByRecursion (λ is. Constant C is (value.Reference t)) es

-- 6.6.6: the inline elements of a table, which has their type. The offset of their segment is 0.
abbrev pub InlineElementsAreValid : Context → ReferenceType → Option Elements → Type 0
InlineElementsAreValid C t None = Unit {0}
InlineElementsAreValid C t (Some es) = ElementsAreValid C t es

-- 3.4.5, active element segments: the table exists and has this type of elements, and the offset is a constant `i32`.
pub record ElementTargetIsValid (C : Context) (t : ReferenceType) (target : Target) : Type 0 where
  pub table : TableType
  pub exists : slice_get C.tables target.index ≡ Some table
  pub element : table.element ≡ t
  pub offset : Constant C target.offset value.I32

-- 3.4.5, element modes.
abbrev pub ModeIsValid : Context → ReferenceType → ElemMode → Type 0
ModeIsValid C t Passive = Unit {0}
ModeIsValid C t (Active target) = ElementTargetIsValid C t target
ModeIsValid C t Declarative = Unit {0}

-- 3.4.6, active data segments: the memory exists, and the offset is a constant `i32`.
pub record DataTargetIsValid (C : Context) (target : Target) : Type 0 where
  pub memory : target.index < length C.mems
  pub offset : Constant C target.offset value.I32

-- 3.4.6, data modes.
abbrev pub DataIsValid : Context → Option Target → Type 0
DataIsValid C None = Unit {0}
DataIsValid C (Some target) = DataTargetIsValid C target

-- 3.4.8, export descriptions: the number of items of an index space; the index of an export is below it.
abbrev pub item_count : Context → IndexSpace → ℕ
item_count C space.Func = length C.funcs
item_count C space.Table = length C.tables
item_count C space.Mem = length C.mems
item_count C space.Global = length C.globals

-- 3.4: a field in the context `C` of its module; initial values, offsets and elements are in the context `D`.
abbrev pub FieldIsValid : Context → Context → Field → Type 0
-- 3.2.3: function types are always valid.
FieldIsValid C D (TypeField l t) = Unit {0}
-- 3.4.9.
FieldIsValid C D (field.Import m n l names t) = ExternIsValid C t
-- 3.4.1.
FieldIsValid C D (Func f) = FunctionIsValid C f
-- 3.4.2, 3.4.5.
FieldIsValid C D (Table l names t es) = TableIsValid t × InlineElementsAreValid D t.element es
-- 3.4.3, 3.4.6.
FieldIsValid C D (Memory l names t bytes) = MemoryIsValid t
-- 3.4.4.
FieldIsValid C D (Global l names t is) = Constant D is t.value
-- 3.4.8.
FieldIsValid C D (field.Export name s i) = i < item_count C s
-- 3.4.7: the start function exists, and has neither parameters nor results.
FieldIsValid C D (Start i) = slice_get C.funcs i ≡ Some (from_to [] [])
-- 3.4.6.
FieldIsValid C D (field.Data l t bytes) = DataIsValid D t
-- 3.4.5.
FieldIsValid C D (field.Elem l m t es) = ModeIsValid D t m × ElementsAreValid D t es

-- 3.4.8, 3.4.10: the names of the exports of a field, inline ones among them, as optional names, so that `are_distinct`
-- applies.
abbrev pub names_of : List (List ℕ) → List (Option (List ℕ))
names_of names = map Some names

abbrev pub export_names : Field → List (Option (List ℕ))
export_names (TypeField l t) = []
export_names (field.Import m n l names t) = names_of names
export_names (Func f) = names_of f.exports
export_names (Table l names t es) = names_of names
export_names (Memory l names t bytes) = names_of names
export_names (Global l names t is) = names_of names
export_names (field.Export name s i) = Some name ∷ []
export_names (Start i) = []
export_names (field.Data l t bytes) = []
export_names (field.Elem l m t es) = []

-- 3.4.10: fields are those of a valid module: each is valid, there is at most one memory, and the names of exports are
-- distinct.
pub record ModuleIsValid (fs : List Field) : Type 0 where
  pub fields : AllByRecursion (FieldIsValid (context_of fs) (initial_context_of fs)) fs
  pub memories : length (flat_map mems_in fs) ≤ 1
  pub exports : are_distinct (flat_map export_names fs) ≡ true
