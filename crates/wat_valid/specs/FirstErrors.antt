-- WebAssembly 2.0, 3.3 and 3.4: the first instruction that is not valid in a body, and the first field that is not valid in a
-- module, with its reason. That each module which is not valid has one is a clause of `validate`.
use Rattle.std.specs.Prelude.{◌≡◌, ◌<◌, ◌≤◌, ◌++◌, ℕ, suc, List, [], ◌∷◌, true, false, length, Option, Some, None, slice_get, take}
use Rattle.std.specs.List.{AllByRecursion, flat_map}
use Rattle.wat_module_ast.specs.declared.instruction.Instruction.{Instruction}
use Rattle.wat_module_ast.specs.declared.instruction.ReferenceType.{ReferenceType}
use Rattle.wat_module_ast.specs.declared.instruction.ValueType.{ValueType}
use Rattle.wat_module_ast.specs.declared.instruction.ValueType.TheVariants as value
use Rattle.wat_module_ast.specs.Fields.{Active, ElemMode, Elements, Field, Func, Function, Global, Memory, Start, Table, Target, TypeField}
use Rattle.wat_module_ast.specs.Fields as field
use Rattle.wat_module_ast.specs.Names.{are_distinct}
use Rattle.wat_module_ast.specs.Types.{FunctionType}
use Rattle.wat_valid.specs.declared.code.Cause.{Cause}
use Rattle.wat_valid.specs.declared.code.Cause.TheVariants as cause
use Rattle.wat_valid.specs.Algorithm.{goes_on}
use Rattle.wat_valid.specs.Contexts.{Context, use_type}
use Rattle.wat_valid.specs.Headers.{CodeIsValid, HeadersAreValid, ModeOffsetIsValid, Violates}
use Rattle.wat_valid.specs.Instructions.{Constant, Expression}
use Rattle.wat_valid.specs.Law.{Viable}
use Rattle.wat_valid.specs.Modules as validation
use Rattle.wat_valid.specs.Modules.{ElementsAreValid, FieldIsValid, ModuleIsValid, export_names, function_context, initial_context_of, mems_in}

-- 3.3: the instructions `is` are not the body of a function with these results, and the first error is at the index `i`: the
-- instructions before it begin a valid body, and with the one there they do not. If no
-- instruction is in error, `i` is the number of instructions, which begin a valid body but are not one.
pub record ErrorAt (C : Context) (is : List Instruction) (results : List ValueType) (i : ℕ) : Type 0 where
  pub within : i ≤ length is
  pub before : Viable C (take i is) results
  pub instruction : i < length is → Viable C (take (suc i) is) results → ⊥
  pub invalid : Expression C (results ∷ []) is results → ⊥

-- 7.3: the first error of the algorithm is at the instruction with the index `i`.
pub record StopsAt (C : Context) (is : List Instruction) (results : List ValueType) (i : ℕ) : Type 0 where
  pub within : i < length is
  pub before : goes_on C (take i is) results ≡ true
  pub error : goes_on C (take (suc i) is) results ≡ false

-- 3.4.5: the first of the elements that is not a constant expression of the type of the segment is that at the index `i`.
pub record ElementErrorAt (D : Context) (t : ReferenceType) (es : Elements) (i : ℕ) : Type 0 where
  pub element : List Instruction
  pub is : slice_get es i ≡ Some element
  pub before : ElementsAreValid D t (take i es)
  pub invalid : Constant D element (value.Reference t) → ⊥

abbrev pub ElementsFail : Context → ReferenceType → Elements → Cause → Type 0
ElementsFail D t es (cause.Element i) = ElementErrorAt D t es i
ElementsFail D t es c = ⊥

abbrev pub InlineElementsFail : Context → ReferenceType → Option Elements → Cause → Type 0
InlineElementsFail D t None c = ⊥
InlineElementsFail D t (Some es) c = ElementsFail D t es c

-- 3.4.4: the initial value `is` of a global of the type `t` is not a constant expression of this type.
abbrev pub InitialValueFails : Context → ValueType → List Instruction → Cause → Type 0
InitialValueFails D t is cause.InitialValue = Constant D is t → ⊥
InitialValueFails D t is c = ⊥

-- 3.4.5, 3.4.6: the offset of an active segment is not a constant `i32`.
abbrev pub OffsetFails : Context → Option Target → Cause → Type 0
OffsetFails D (Some target) cause.Offset = Constant D target.offset value.I32 → ⊥
OffsetFails D target c = ⊥

abbrev pub ModeOffsetFails : Context → ElemMode → Type 0
ModeOffsetFails D (Active target) = Constant D target.offset value.I32 → ⊥
ModeOffsetFails D m = ⊥

-- 3.4.5: the offset of an element segment is not valid; or it is, and an element is not.
abbrev pub SegmentFails : Context → ElemMode → ReferenceType → Elements → Cause → Type 0
SegmentFails D m t es cause.Offset = ModeOffsetFails D m
SegmentFails D m t es (cause.Element i) = ModeOffsetIsValid D m × ElementErrorAt D t es i
SegmentFails D m t es c = ⊥

-- 3.4.1: the body of a function is not valid, with the first error in it.
abbrev pub BodyFails : Context → Function → Cause → Type 0
BodyFails C f (cause.Body i) = (t : FunctionType) × (use_type C.types f.uses ≡ Some t) × ErrorAt (function_context C t f.locals) f.body t.results i
BodyFails C f c = ⊥

-- 3.4: the first of the instructions of a field, in the order of the text, that are not valid: the body of a function, an
-- initial value, an offset, or an element.
abbrev pub CodeFails : Context → Context → Field → Cause → Type 0
CodeFails C D (TypeField l t) c = ⊥
CodeFails C D (field.Import m n l names t) c = ⊥
CodeFails C D (Func f) c = BodyFails C f c
CodeFails C D (Table l names t es) c = InlineElementsFail D t.element es c
CodeFails C D (Memory l names t bytes) c = ⊥
CodeFails C D (Global l names t is) c = InitialValueFails D t.value is c
CodeFails C D (field.Export name s i) c = ⊥
CodeFails C D (Start i) c = ⊥
CodeFails C D (field.Data l t bytes) c = OffsetFails D t c
CodeFails C D (field.Elem l m t es) c = SegmentFails D m t es c

-- The first of the fields whose instructions are not valid is that at the index `i`.
pub record FirstCodeError (C D : Context) (fs : List Field) (i : ℕ) (c : Cause) : Type 0 where
  pub field : Field
  pub is : slice_get fs i ≡ Some field
  pub before : AllByRecursion (CodeIsValid C D) (take i fs)
  pub fails : CodeFails C D field c

-- The condition that a field after the valid fields `before` violates, with the reason: one on its instructions only if it meets
-- all others.
abbrev pub Fails : Context → Context → List Field → Field → Cause → Type 0
Fails C D before f (cause.Header r) = Violates C before f r
Fails C D before f c = HeadersAreValid C (before ++ f ∷ []) × CodeFails C D f c

-- The conditions on fields in two parts; and the first field that violates one, after fields that meet all.
pub record PartsAreValid (C D : Context) (fs : List Field) : Type 0 where
  pub headers : HeadersAreValid C fs
  pub code : AllByRecursion (CodeIsValid C D) fs

pub record FirstFailure (C D : Context) (fs : List Field) (i : ℕ) (c : Cause) : Type 0 where
  pub field : Field
  pub is : slice_get fs i ≡ Some field
  pub before : PartsAreValid C D (take i fs)
  pub fails : Fails C D (take i fs) field c

-- 3.4.10: the conditions of a module, on fields in the contexts `C` and `D`.
pub record FieldsAreValid (C D : Context) (fs : List Field) : Type 0 where
  pub fields : AllByRecursion (FieldIsValid C D) fs
  pub memories : length (flat_map mems_in fs) ≤ 1
  pub exports : are_distinct (flat_map export_names fs) ≡ true

-- `FirstInvalid fs i c`: the fields before the one at the index `i` meet all conditions of a module, and this field violates
-- one, for the reason `c`. Both are in the contexts of the whole module. A function or an import whose type use has no type has
-- no index in these contexts, so that the first such field can be one before it, which uses a later index. No text has such a
-- type use, since its grammar has none.
pub record FirstInvalid (fs : List Field) (i : ℕ) (c : Cause) : Type 0 where
  pub field : Field
  pub is : slice_get fs i ≡ Some field
  pub before : FieldsAreValid (validation.context_of fs) (initial_context_of fs) (take i fs)
  pub fails : Fails (validation.context_of fs) (initial_context_of fs) (take i fs) field c

-- Theorem: at most one field of a module is the first that violates a condition, and it has one reason.
abbrev pub FirstInvalidIsOne : Type 0
FirstInvalidIsOne = (fs : List Field) (i j : ℕ) (c d : Cause) → FirstInvalid fs i c → FirstInvalid fs j d → (i ≡ j) × (c ≡ d)

-- Theorem: a module with a first field that violates a condition is not valid.
abbrev pub FirstInvalidIsNotValid : Type 0
FirstInvalidIsNotValid = (fs : List Field) (i : ℕ) (c : Cause) → FirstInvalid fs i c → ModuleIsValid fs → ⊥
