-- A module has at most one first field that violates a condition, and this field does so for one reason.
use Rattle.std.proofs.Common.{◌≡◌, ◌∙◌, ◌<◌, ◌≤◌, ◌++◌, ℕ, zero, suc, List, [], ◌∷◌, Option, Some, None, length, take, drop, refl, sym, ap, subst, append_assoc, arith, inl, inr}
use Rattle.std.specs.List.{AllByRecursion, flat_map}
use Rattle.std.specs.Prelude.{slice_get}
use Rattle.std.proofs.lemmas.Bool.{cases_lt}
use Rattle.std.proofs.lemmas.List.{take-append-drop, take-take}
use Rattle.std.proofs.lemmas.Option.{slice_get_past}
use Rattle.wat_module_ast.specs.declared.fields.IndexSpace.{IndexSpace}
use Rattle.wat_module_ast.specs.declared.fields.IndexSpace.TheVariants as space
use Rattle.wat_module_ast.specs.declared.fields.Limits.{Limits}
use Rattle.wat_module_ast.specs.declared.fields.TableType.{TableType}
use Rattle.wat_module_ast.specs.declared.instruction.Instruction.{Instruction}
use Rattle.wat_module_ast.specs.declared.instruction.ReferenceType.{ReferenceType}
use Rattle.wat_module_ast.specs.declared.instruction.ValueType.{ValueType}
use Rattle.wat_module_ast.specs.declared.instruction.ValueType.TheVariants as value
use Rattle.wat_module_ast.specs.Fields.{Active, ElemMode, Elements, ExternType, Field, Func, FuncType, Function, Global, Memory, OfMemory, OfTable, Start, Table, Target, TypeField}
use Rattle.wat_module_ast.specs.Fields as field
use Rattle.wat_module_ast.specs.Types.{FunctionType, TypeUse, from_to}
use Rattle.wat_valid.specs.declared.code.Cause.{Cause}
use Rattle.wat_valid.specs.declared.code.Cause.TheVariants as cause
use Rattle.wat_valid.specs.declared.module.Reason.{Reason}
use Rattle.wat_valid.specs.declared.module.Reason.TheVariants as reason
use Rattle.wat_valid.specs.Contexts.{Context, use_type}
use Rattle.wat_valid.specs.FirstErrors.{BodyFails, CodeFails, ElementErrorAt, ErrorAt, Fails, FirstInvalid, FirstInvalidIsOne, InitialValueFails, InlineElementsFail, ModeOffsetFails, OffsetFails, SegmentFails}
use Rattle.wat_valid.specs.Headers.{CodeIsValid, ExportViolates, ExternViolates, HeaderIsValid, HeaderViolates, HeadersAreValid, MemoryViolates, ModeOffsetIsValid, ModeViolates, StartViolates, TableViolates, UseViolates, Violates}
use Rattle.wat_valid.specs.Instructions.{Constant, Expression}
use Rattle.wat_valid.specs.Law.{Viable}
use Rattle.wat_valid.specs.Modules as validation
use Rattle.wat_valid.specs.Modules.{FieldIsValid, function_context, initial_context_of, mems_in}
use Rattle.wat_valid.proofs.Conditions.{at, code, each, header, not_after, not_header, same_some}
use Rattle.wat_valid.proofs.FirstInvalid.{fails_within, within_take}

-- one reason for which a field alone violates a condition

abbrev Reasons : (Reason → Type 0) → Reason → Type 0
Reasons P r = (s : Reason) → P s → r ≡ s

one_type : (C : Context) (u : TypeUse) → Reasons (ExternViolates C (FuncType u)) reason.UnknownType
one_type C u reason.UnknownType w = refl
one_type C u s w = absurd w

one_table : (C : Context) (t : TableType) → Reasons (ExternViolates C (OfTable t)) reason.Limits
one_table C t reason.Limits w = refl
one_table C t s w = absurd w

one_memory : (C : Context) (l : Limits) → Reasons (ExternViolates C (OfMemory l)) reason.Limits
one_memory C l reason.Limits w = refl
one_memory C l s w = absurd w

one_extern : (C : Context) (t : ExternType) (r s : Reason) → ExternViolates C t r → ExternViolates C t s → r ≡ s
one_extern C (FuncType u) reason.UnknownType s v w = one_type C u s w
one_extern C (OfTable t) reason.Limits s v w = one_table C t s w
one_extern C (OfMemory l) reason.Limits s v w = one_memory C l s w
one_extern C t r s v w = absurd v

one_defined_type : (C : Context) (u : TypeUse) → Reasons (UseViolates C u) reason.UnknownType
one_defined_type C u reason.UnknownType w = refl
one_defined_type C u s w = absurd w

one_use : (C : Context) (u : TypeUse) (r s : Reason) → UseViolates C u r → UseViolates C u s → r ≡ s
one_use C u reason.UnknownType s v w = one_defined_type C u s w
one_use C u r s v w = absurd v

one_limits : (t : TableType) → Reasons (TableViolates t) reason.Limits
one_limits t reason.Limits w = refl
one_limits t s w = absurd w

one_defined_table : (t : TableType) (r s : Reason) → TableViolates t r → TableViolates t s → r ≡ s
one_defined_table t reason.Limits s v w = one_limits t s w
one_defined_table t r s v w = absurd v

one_func : (C : Context) (i : ℕ) → Reasons (ExportViolates C space.Func i) (reason.UnknownItem space.Func)
one_func C i (reason.UnknownItem space.Func) w = refl
one_func C i s w = absurd w

one_exported_table : (C : Context) (i : ℕ) → Reasons (ExportViolates C space.Table i) (reason.UnknownItem space.Table)
one_exported_table C i (reason.UnknownItem space.Table) w = refl
one_exported_table C i s w = absurd w

one_exported_memory : (C : Context) (i : ℕ) → Reasons (ExportViolates C space.Mem i) (reason.UnknownItem space.Mem)
one_exported_memory C i (reason.UnknownItem space.Mem) w = refl
one_exported_memory C i s w = absurd w

one_global : (C : Context) (i : ℕ) → Reasons (ExportViolates C space.Global i) (reason.UnknownItem space.Global)
one_global C i (reason.UnknownItem space.Global) w = refl
one_global C i s w = absurd w

one_export : (C : Context) (x : IndexSpace) (i : ℕ) (r s : Reason) → ExportViolates C x i r → ExportViolates C x i s → r ≡ s
one_export C space.Func i (reason.UnknownItem space.Func) s v w = one_func C i s w
one_export C space.Table i (reason.UnknownItem space.Table) s v w = one_exported_table C i s w
one_export C space.Mem i (reason.UnknownItem space.Mem) s v w = one_exported_memory C i s w
one_export C space.Global i (reason.UnknownItem space.Global) s v w = one_global C i s w
one_export C x i r s v w = absurd v

no_start : (C : Context) (i : ℕ) → length C.funcs ≤ i → Reasons (StartViolates C i) (reason.UnknownItem space.Func)
no_start C i l (reason.UnknownItem space.Func) w = refl
no_start C i l reason.StartType w = let k = sym (slice_get_past C.funcs i l) ∙ w.1 in cc
no_start C i l s w = absurd w

other_start : (C : Context) (i : ℕ) (t : FunctionType) → slice_get C.funcs i ≡ Some t → Reasons (StartViolates C i) reason.StartType
other_start C i t e (reason.UnknownItem space.Func) w = let k = sym (slice_get_past C.funcs i w) ∙ e in cc
other_start C i t e reason.StartType w = refl
other_start C i t e s w = absurd w

one_start : (C : Context) (i : ℕ) (r s : Reason) → StartViolates C i r → StartViolates C i s → r ≡ s
one_start C i (reason.UnknownItem space.Func) s v w = no_start C i v s w
one_start C i reason.StartType s v w = other_start C i v.0 v.1 s w
one_start C i r s v w = absurd v

no_memory : (C : Context) (target : Target) → Reasons (MemoryViolates C (Some target)) (reason.UnknownItem space.Mem)
no_memory C target (reason.UnknownItem space.Mem) w = refl
no_memory C target s w = absurd w

one_data : (C : Context) (t : Option Target) (r s : Reason) → MemoryViolates C t r → MemoryViolates C t s → r ≡ s
one_data C (Some target) (reason.UnknownItem space.Mem) s v w = no_memory C target s w
one_data C t r s v w = absurd v

no_table : (C : Context) (t : ReferenceType) (target : Target) → length C.tables ≤ target.index → Reasons (ModeViolates C t (Active target)) (reason.UnknownItem space.Table)
no_table C t target l (reason.UnknownItem space.Table) w = refl
no_table C t target l reason.ElementType w = let k = sym (slice_get_past C.tables target.index l) ∙ w.1 in cc
no_table C t target l s w = absurd w

other_table : (C : Context) (t : ReferenceType) (target : Target) (table : TableType) → slice_get C.tables target.index ≡ Some table → Reasons (ModeViolates C t (Active target)) reason.ElementType
other_table C t target table e (reason.UnknownItem space.Table) w = let k = sym (slice_get_past C.tables target.index w) ∙ e in cc
other_table C t target table e reason.ElementType w = refl
other_table C t target table e s w = absurd w

one_mode : (C : Context) (t : ReferenceType) (m : ElemMode) (r s : Reason) → ModeViolates C t m r → ModeViolates C t m s → r ≡ s
one_mode C t (Active target) (reason.UnknownItem space.Table) s v w = no_table C t target v s w
one_mode C t (Active target) reason.ElementType s v w = other_table C t target v.0 v.1 s w
one_mode C t m r s v w = absurd v

one_header : (C : Context) (f : Field) (r s : Reason) → HeaderViolates C f r → HeaderViolates C f s → r ≡ s
one_header C (TypeField l t) r s v w = absurd v
one_header C (field.Import m n l names t) r s v w = one_extern C t r s v w
one_header C (Func f) r s v w = one_use C f.uses r s v w
one_header C (Table l names t es) r s v w = one_defined_table t r s v w
one_header C (Memory l names t bytes) r s v w = one_extern C (OfMemory t) r s v w
one_header C (Global l names t is) r s v w = absurd v
one_header C (field.Export name x i) r s v w = one_export C x i r s v w
one_header C (Start i) r s v w = one_start C i r s v w
one_header C (field.Data l t bytes) r s v w = one_data C t r s v w
one_header C (field.Elem l m t es) r s v w = one_mode C t m r s v w

-- one reason for which a field violates a condition after other fields

one_second : (C : Context) (before : List Field) (f : Field) → HeaderIsValid C f → 1 < length (flat_map mems_in (before ++ f ∷ [])) → Reasons (Violates C before f) reason.SecondMemory
one_second C before f h l reason.SecondMemory w = refl
one_second C before f h l reason.DuplicateExport w = absurd (omega (arith, l, w.1))
one_second C before f h l s w = absurd (not_header C f s w h)

one_repeated : (C : Context) (before : List Field) (f : Field) → HeaderIsValid C f → length (flat_map mems_in (before ++ f ∷ [])) ≤ 1 → Reasons (Violates C before f) reason.DuplicateExport
one_repeated C before f h l reason.SecondMemory w = absurd (omega (arith, l, w.1))
one_repeated C before f h l reason.DuplicateExport w = refl
one_repeated C before f h l s w = absurd (not_header C f s w h)

one_alone : (C : Context) (before : List Field) (f : Field) (r : Reason) → HeaderViolates C f r → Reasons (Violates C before f) r
one_alone C before f r v reason.SecondMemory w = absurd (not_header C f r v w.0)
one_alone C before f r v reason.DuplicateExport w = absurd (not_header C f r v w.0)
one_alone C before f r v s w = one_header C f r s v w

one_violation : (C : Context) (before : List Field) (f : Field) (r s : Reason) → Violates C before f r → Violates C before f s → r ≡ s
one_violation C before f reason.SecondMemory s v w = one_second C before f v.0 v.1 s w
one_violation C before f reason.DuplicateExport s v w = one_repeated C before f v.0 v.1 s w
one_violation C before f r s v w = one_alone C before f r v s w

-- one first error in instructions

shorter : (C : Context) (is : List Instruction) (results : List ValueType) (i j : ℕ) → i ≤ j → Viable C (take j is) results → Viable C (take i is) results
shorter C is results i j l v =
    let parts = take-append-drop i (take j is) in
    let rest = drop i (take j is) in
    record {
      more = rest ++ v.more;
      valid = subst (λ xs. Expression C (results ∷ []) xs results) (ap (λ xs. xs ++ v.more) (sym parts ∙ ap (λ xs. xs ++ rest) (take-take i j is l)) ∙ append_assoc (take i is) rest v.more) v.valid;
    }

no_later_error : (C : Context) (is : List Instruction) (results : List ValueType) (i j : ℕ) → ErrorAt C is results i → ErrorAt C is results j → i < j → ⊥
no_later_error C is results i j e f l = e.instruction (omega (arith, l, f.within)) (shorter C is results (suc i) j (omega (arith, l)) f.before)

one_index : (i j : ℕ) → (i < j → ⊥) → (j < i → ⊥) → i ≡ j
one_index i j f g =
    elim (cases_lt i j) [
      | inl l ↦ absurd (f l)
      | inr l ↦
          elim (cases_lt j i) [
            | inl m ↦ absurd (g m)
            | inr m ↦ omega (arith, l, m)
          ]
    ]

one_error : (C : Context) (is : List Instruction) (results : List ValueType) (i j : ℕ) → ErrorAt C is results i → ErrorAt C is results j → i ≡ j
one_error C is results i j e f = one_index i j (no_later_error C is results i j e f) (no_later_error C is results j i f e)

same_body : (C : Context) (f : Function) (t u : FunctionType) (i j : ℕ) → t ≡ u → ErrorAt (function_context C t f.locals) f.body t.results i → ErrorAt (function_context C u f.locals) f.body u.results j → i ≡ j
same_body C f t u i j s e g = one_error (function_context C u f.locals) f.body u.results i j (subst (λ (x : FunctionType). ErrorAt (function_context C x f.locals) f.body x.results i) s e) g

one_body : (C : Context) (f : Function) (i : ℕ) (d : Cause) → BodyFails C f (cause.Body i) → BodyFails C f d → cause.Body i ≡ d
one_body C f i (cause.Body j) v w = ap cause.Body (same_body C f v.0 w.0 i j (same_some (use_type C.types f.uses) v.0 w.0 v.1 w.1) v.2 w.2)
one_body C f i d v w = absurd w

-- one first element that is not valid

before_later : {A : Type 0} (xs : List A) (i j : ℕ) → i < j → slice_get (take j xs) i ≡ slice_get xs i
before_later [] i zero l = absurd (omega (arith, l))
before_later [] i (suc j) l = refl
before_later (x ∷ xs) i zero l = absurd (omega (arith, l))
before_later (x ∷ xs) zero (suc j) l = refl
before_later (x ∷ xs) (suc i) (suc j) l = before_later xs i j (omega (arith, l))

no_later_element : (D : Context) (t : ReferenceType) (es : Elements) (i j : ℕ) → ElementErrorAt D t es i → ElementErrorAt D t es j → i < j → ⊥
no_later_element D t es i j e f l = e.invalid (at (λ is. Constant D is (value.Reference t)) (take j es) i e.element f.before (before_later es i j l ∙ e.is))

one_element : (D : Context) (t : ReferenceType) (es : Elements) (i j : ℕ) → ElementErrorAt D t es i → ElementErrorAt D t es j → i ≡ j
one_element D t es i j e f = one_index i j (no_later_element D t es i j e f) (no_later_element D t es j i f e)

one_inline : (D : Context) (t : ReferenceType) (es : Elements) (i : ℕ) (d : Cause) → ElementErrorAt D t es i → InlineElementsFail D t (Some es) d → cause.Element i ≡ d
one_inline D t es i (cause.Element j) v w = ap cause.Element (one_element D t es i j v w)
one_inline D t es i d v w = absurd w

one_value : (D : Context) (t : ValueType) (is : List Instruction) (d : Cause) → InitialValueFails D t is d → cause.InitialValue ≡ d
one_value D t is cause.InitialValue w = refl
one_value D t is d w = absurd w

one_offset : (D : Context) (target : Target) (d : Cause) → OffsetFails D (Some target) d → cause.Offset ≡ d
one_offset D target cause.Offset w = refl
one_offset D target d w = absurd w

offset_fails : (D : Context) (m : ElemMode) → ModeOffsetFails D m → ModeOffsetIsValid D m → ⊥
offset_fails D (Active target) k h = k h
offset_fails D m k h = k

one_segment_offset : (D : Context) (m : ElemMode) (t : ReferenceType) (es : Elements) (d : Cause) → ModeOffsetFails D m → SegmentFails D m t es d → cause.Offset ≡ d
one_segment_offset D m t es cause.Offset v w = refl
one_segment_offset D m t es (cause.Element j) v w = absurd (offset_fails D m v w.0)
one_segment_offset D m t es d v w = absurd w

one_segment_element : (D : Context) (m : ElemMode) (t : ReferenceType) (es : Elements) (i : ℕ) (d : Cause) → ModeOffsetIsValid D m → ElementErrorAt D t es i → SegmentFails D m t es d → cause.Element i ≡ d
one_segment_element D m t es i cause.Offset v e w = absurd (offset_fails D m w v)
one_segment_element D m t es i (cause.Element j) v e w = ap cause.Element (one_element D t es i j e w.1)
one_segment_element D m t es i d v e w = absurd w

-- one cause for which the instructions of a field are not valid

one_code : (C D : Context) (f : Field) (c d : Cause) → CodeFails C D f c → CodeFails C D f d → c ≡ d
one_code C D (TypeField l t) c d v w = absurd v
one_code C D (field.Import m n l names t) c d v w = absurd v
one_code C D (Func f) (cause.Body i) d v w = one_body C f i d v w
one_code C D (Func f) c d v w = absurd v
one_code C D (Table l names t None) c d v w = absurd v
one_code C D (Table l names t (Some es)) (cause.Element i) d v w = one_inline D t.element es i d v w
one_code C D (Table l names t (Some es)) c d v w = absurd v
one_code C D (Memory l names t bytes) c d v w = absurd v
one_code C D (Global l names t is) cause.InitialValue d v w = one_value D t.value is d w
one_code C D (Global l names t is) c d v w = absurd v
one_code C D (field.Export name x i) c d v w = absurd v
one_code C D (Start i) c d v w = absurd v
one_code C D (field.Data l None bytes) c d v w = absurd v
one_code C D (field.Data l (Some target) bytes) cause.Offset d v w = one_offset D target d w
one_code C D (field.Data l (Some target) bytes) c d v w = absurd v
one_code C D (field.Elem l m t es) cause.Offset d v w = one_segment_offset D m t es d v w
one_code C D (field.Elem l m t es) (cause.Element i) d v w = one_segment_element D m t es i d v.0 v.1 w
one_code C D (field.Elem l m t es) c d v w = absurd v

-- one cause for which a field is not valid after other fields

one_header_cause : (C D : Context) (before : List Field) (f : Field) (r : Reason) (d : Cause) → Violates C before f r → Fails C D before f d → cause.Header r ≡ d
one_header_cause C D before f r (cause.Header s) v w = ap cause.Header (one_violation C before f r s v w)
one_header_cause C D before f r d v w = absurd (not_after C before f r v w.0)

one_code_cause : (C D : Context) (before : List Field) (f : Field) (c d : Cause) → HeadersAreValid C (before ++ f ∷ []) → CodeFails C D f c → Fails C D before f d → c ≡ d
one_code_cause C D before f c (cause.Header s) h v w = absurd (not_after C before f s w h)
one_code_cause C D before f c d h v w = one_code C D f c d v w.1

one_cause : (C D : Context) (before : List Field) (f : Field) (c d : Cause) → Fails C D before f c → Fails C D before f d → c ≡ d
one_cause C D before f (cause.Header r) d v w = one_header_cause C D before f r d v w
one_cause C D before f c d v w = one_code_cause C D before f c d v.0 v.1 w

-- one first field

no_later : (fs : List Field) (i j : ℕ) (c d : Cause) → FirstInvalid fs i c → FirstInvalid fs j d → i < j → ⊥
no_later fs i j c d k m l =
    let C = validation.context_of fs in
    let D = initial_context_of fs in
    let is = before_later fs i j l ∙ k.is in
    let same = (within_take j fs i k.field is).1 in
    fails_within C D (take j fs) i k.field c is
    (record { fields = each (FieldIsValid C D) (HeaderIsValid C) (header C D.globals) (take j fs) m.before.fields; memories = m.before.memories; exports = m.before.exports })
    (each (FieldIsValid C D) (CodeIsValid C D) (code C D.globals) (take j fs) m.before.fields)
    (subst (λ (before : List Field). Fails C D before k.field c) (sym same) k.fails)

at_once : (fs : List Field) (i : ℕ) (c d : Cause) → FirstInvalid fs i c → FirstInvalid fs i d → c ≡ d
at_once fs i c d k m =
    let C = validation.context_of fs in
    let D = initial_context_of fs in
    one_cause C D (take i fs) k.field c d k.fails
    (subst (λ (f : Field). Fails C D (take i fs) f d) (same_some (slice_get fs i) m.field k.field m.is k.is) m.fails)

pub one : FirstInvalidIsOne
one fs i j c d k m =
    let same = one_index i j (no_later fs i j c d k m) (no_later fs j i d c m k) in
    (same, at_once fs i c d k (subst (λ x. FirstInvalid fs x d) (sym same) m))
