-- WebAssembly 2.0, 3.4: the conditions of a valid field in two parts: those on its instructions, and all others. The reasons
-- for which a field violates one of the others.
use Rattle.std.specs.Prelude.{◌≡◌, ◌<◌, ◌≤◌, ◌++◌, ℕ, List, [], ◌∷◌, true, false, length, Option, Some, None, slice_get, take}
use Rattle.std.specs.List.{AllByRecursion, flat_map}
use Rattle.wat_module_ast.specs.declared.fields.IndexSpace.{IndexSpace}
use Rattle.wat_module_ast.specs.declared.fields.IndexSpace.TheVariants as space
use Rattle.wat_module_ast.specs.declared.fields.TableType.{TableType}
use Rattle.wat_module_ast.specs.declared.instruction.ReferenceType.{ReferenceType}
use Rattle.wat_module_ast.specs.declared.instruction.ValueType.TheVariants as value
use Rattle.wat_module_ast.specs.Fields.{ElemMode, Passive, Active, Declarative, ExternType, FuncType, OfTable, OfMemory, OfGlobal, Field, TypeField, Func, Table, Memory, Global, Start, Target}
use Rattle.wat_module_ast.specs.Fields as field
use Rattle.wat_module_ast.specs.Names.{are_distinct}
use Rattle.wat_module_ast.specs.Types.{FunctionType, TypeUse, from_to}
use Rattle.wat_valid.specs.declared.module.Reason.{Reason}
use Rattle.wat_valid.specs.declared.module.Reason.TheVariants as reason
use Rattle.wat_valid.specs.Contexts.{Context, use_type}
use Rattle.wat_valid.specs.Instructions.{Constant, Expression}
use Rattle.wat_valid.specs.Modules as validation
use Rattle.wat_valid.specs.Modules.{ModuleIsValid, initial_context_of, ElementsAreValid, ExternIsValid, InlineElementsAreValid, MemoryIsValid, TableIsValid, export_names, function_context, item_count, mems_in}

-- 6.6.3: a type use has a type.
pub record UseIsValid (types : List FunctionType) (u : TypeUse) : Type 0 where
  pub type : FunctionType
  pub is : use_type types u ≡ Some type

-- 3.4.5: the target of an active element segment exists, and has this type of elements.
pub record TableFits (tables : List TableType) (t : ReferenceType) (i : ℕ) : Type 0 where
  pub table : TableType
  pub exists : slice_get tables i ≡ Some table
  pub element : table.element ≡ t

abbrev pub ModeFits : Context → ReferenceType → ElemMode → Type 0
ModeFits C t Passive = Unit {0}
ModeFits C t (Active target) = TableFits C.tables t target.index
ModeFits C t Declarative = Unit {0}

-- 3.4.6: the target of an active data segment exists.
abbrev pub MemoryFits : Context → Option Target → Type 0
MemoryFits C None = Unit {0}
MemoryFits C (Some target) = target.index < length C.mems

-- 3.4: the conditions on a field in the context `C` of its module, except those on its instructions.
abbrev pub HeaderIsValid : Context → Field → Type 0
HeaderIsValid C (TypeField l t) = Unit {0}
HeaderIsValid C (field.Import m n l names t) = ExternIsValid C t
HeaderIsValid C (Func f) = UseIsValid C.types f.uses
HeaderIsValid C (Table l names t es) = TableIsValid t
HeaderIsValid C (Memory l names t bytes) = MemoryIsValid t
HeaderIsValid C (Global l names t is) = Unit {0}
HeaderIsValid C (field.Export name s i) = i < item_count C s
HeaderIsValid C (Start i) = slice_get C.funcs i ≡ Some (from_to [] [])
HeaderIsValid C (field.Data l t bytes) = MemoryFits C t
HeaderIsValid C (field.Elem l m t es) = ModeFits C t m

-- 3.4: the conditions on the instructions of a field: the body of a function in the context of its type, and constant
-- expressions in the context `D`.
abbrev pub OffsetIsValid : Context → Option Target → Type 0
OffsetIsValid D None = Unit {0}
OffsetIsValid D (Some target) = Constant D target.offset value.I32

abbrev pub ModeOffsetIsValid : Context → ElemMode → Type 0
ModeOffsetIsValid D Passive = Unit {0}
ModeOffsetIsValid D (Active target) = Constant D target.offset value.I32
ModeOffsetIsValid D Declarative = Unit {0}

abbrev pub CodeIsValid : Context → Context → Field → Type 0
CodeIsValid C D (TypeField l t) = Unit {0}
CodeIsValid C D (field.Import m n l names t) = Unit {0}
CodeIsValid C D (Func f) = (t : FunctionType) → use_type C.types f.uses ≡ Some t → Expression (function_context C t f.locals) (t.results ∷ []) f.body t.results
CodeIsValid C D (Table l names t es) = InlineElementsAreValid D t.element es
CodeIsValid C D (Memory l names t bytes) = Unit {0}
CodeIsValid C D (Global l names t is) = Constant D is t.value
CodeIsValid C D (field.Export name s i) = Unit {0}
CodeIsValid C D (Start i) = Unit {0}
CodeIsValid C D (field.Data l t bytes) = OffsetIsValid D t
CodeIsValid C D (field.Elem l m t es) = ModeOffsetIsValid D m × ElementsAreValid D t es

-- The condition that an imported item violates, and the reason.
abbrev pub ExternViolates : Context → ExternType → Reason → Type 0
ExternViolates C (FuncType u) reason.UnknownType = use_type C.types u ≡ None
ExternViolates C (OfTable t) reason.Limits = TableIsValid t → ⊥
ExternViolates C (OfMemory l) reason.Limits = MemoryIsValid l → ⊥
ExternViolates C t r = ⊥

-- The condition that the mode of an element segment with elements of the type `t` violates, and the reason.
abbrev pub ModeViolates : Context → ReferenceType → ElemMode → Reason → Type 0
ModeViolates C t (Active target) (reason.UnknownItem space.Table) = length C.tables ≤ target.index
ModeViolates C t (Active target) reason.ElementType = (table : TableType) × (slice_get C.tables target.index ≡ Some table) × (table.element ≡ t → ⊥)
ModeViolates C t m r = ⊥

-- The condition that the target of a data segment violates, and the reason.
abbrev pub MemoryViolates : Context → Option Target → Reason → Type 0
MemoryViolates C (Some target) (reason.UnknownItem space.Mem) = length C.mems ≤ target.index
MemoryViolates C t r = ⊥

-- The condition that the index of an export violates, and the reason.
abbrev pub ExportViolates : Context → IndexSpace → ℕ → Reason → Type 0
ExportViolates C space.Func i (reason.UnknownItem space.Func) = length C.funcs ≤ i
ExportViolates C space.Table i (reason.UnknownItem space.Table) = length C.tables ≤ i
ExportViolates C space.Mem i (reason.UnknownItem space.Mem) = length C.mems ≤ i
ExportViolates C space.Global i (reason.UnknownItem space.Global) = length C.globals ≤ i
ExportViolates C s i r = ⊥

-- The condition that the start function violates, and the reason.
abbrev pub StartViolates : Context → ℕ → Reason → Type 0
StartViolates C i (reason.UnknownItem space.Func) = length C.funcs ≤ i
StartViolates C i reason.StartType = (t : FunctionType) × (slice_get C.funcs i ≡ Some t) × (t ≡ from_to [] [] → ⊥)
StartViolates C i r = ⊥

-- The condition that a field violates, and the reason.
abbrev pub UseViolates : Context → TypeUse → Reason → Type 0
UseViolates C u reason.UnknownType = use_type C.types u ≡ None
UseViolates C u r = ⊥

abbrev pub TableViolates : TableType → Reason → Type 0
TableViolates t reason.Limits = TableIsValid t → ⊥
TableViolates t r = ⊥

abbrev pub HeaderViolates : Context → Field → Reason → Type 0
HeaderViolates C (TypeField l t) r = ⊥
HeaderViolates C (field.Import m n l names t) r = ExternViolates C t r
HeaderViolates C (Func f) r = UseViolates C f.uses r
HeaderViolates C (Table l names t es) r = TableViolates t r
HeaderViolates C (Memory l names t bytes) r = ExternViolates C (OfMemory t) r
HeaderViolates C (Global l names t is) r = ⊥
HeaderViolates C (field.Export name s i) r = ExportViolates C s i r
HeaderViolates C (Start i) r = StartViolates C i r
HeaderViolates C (field.Data l t bytes) r = MemoryViolates C t r
HeaderViolates C (field.Elem l m t es) r = ModeViolates C t m r

-- 3.4.10: the conditions on the fields of a module, except those on their instructions.
pub record HeadersAreValid (C : Context) (fs : List Field) : Type 0 where
  pub fields : AllByRecursion (HeaderIsValid C) fs
  pub memories : length (flat_map mems_in fs) ≤ 1
  pub exports : are_distinct (flat_map export_names fs) ≡ true

-- The first of the conditions that a field after the fields `before` violates, and the reason: a condition on the field alone;
-- or it meets these, and there is a second memory; or it meets these and that, and a name of an export repeats. A second memory
-- and a name that repeats are those of the field, since the fields before it are valid.
abbrev pub Violates : Context → List Field → Field → Reason → Type 0
Violates C before f reason.SecondMemory = HeaderIsValid C f × (1 < length (flat_map mems_in (before ++ f ∷ [])))
Violates C before f reason.DuplicateExport = HeaderIsValid C f × (length (flat_map mems_in (before ++ f ∷ [])) ≤ 1) × (are_distinct (flat_map export_names (before ++ f ∷ [])) ≡ false)
Violates C before f r = HeaderViolates C f r

-- `FirstViolation C fs i r`: the fields before the one at the index `i` are valid except their instructions, and this field
-- violates another condition, for the reason `r`.
pub record FirstViolation (C : Context) (fs : List Field) (i : ℕ) (r : Reason) : Type 0 where
  pub field : Field
  pub is : slice_get fs i ≡ Some field
  pub before : HeadersAreValid C (take i fs)
  pub violates : Violates C (take i fs) field r

-- Theorem: a module is valid if and only if its fields meet the conditions on their instructions and all others; and a module
-- with a field that violates a condition is not valid.
pub record ConditionsArePartsOfValidity : Type 0 where
  pub headers : (fs : List Field) → ModuleIsValid fs → HeadersAreValid (validation.context_of fs) fs
  pub code : (fs : List Field) → ModuleIsValid fs → AllByRecursion (CodeIsValid (validation.context_of fs) (initial_context_of fs)) fs
  pub all : (fs : List Field) → HeadersAreValid (validation.context_of fs) fs → AllByRecursion (CodeIsValid (validation.context_of fs) (initial_context_of fs)) fs → ModuleIsValid fs
  pub violation : (fs : List Field) (i : ℕ) (r : Reason) → FirstViolation (validation.context_of fs) fs i r → ModuleIsValid fs → ⊥
