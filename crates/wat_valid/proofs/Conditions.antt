-- The conditions of a valid field, in two parts.
use Rattle.std.proofs.Common.{◌≡◌, ◌∙◌, ◌<◌, ℕ, zero, suc, List, [], ◌∷◌, ◌++◌, Option, Some, None, length, take, drop, refl, sym, ap, subst, arith}
use Rattle.std.specs.List.{AllByRecursion, flat_map}
use Rattle.std.specs.Prelude.{slice_get}
use Rattle.std.proofs.lemmas.Grind.{flat_map-append}
use Rattle.std.proofs.lemmas.List.{length-append}
use Rattle.wat_module_ast.specs.declared.fields.GlobalType.{GlobalType}
use Rattle.wat_module_ast.specs.declared.fields.IndexSpace.{IndexSpace}
use Rattle.wat_module_ast.specs.declared.fields.IndexSpace.TheVariants as space
use Rattle.wat_module_ast.specs.declared.fields.TableType.{TableType}
use Rattle.wat_module_ast.specs.declared.instruction.ReferenceType.{ReferenceType}
use Rattle.std.proofs.lemmas.Option.{slice_get_past}
use Rattle.wat_module_ast.specs.Fields.{ElemMode, ExternType, Target, Passive, Active, Declarative, FuncType, OfTable, OfMemory, OfGlobal, Field, TypeField, Func, Table, Memory, Global, Start}
use Rattle.wat_module_ast.specs.Fields as field
use Rattle.wat_module_ast.specs.Names.{are_distinct}
use Rattle.wat_module_ast.specs.Types.{TypeUse, from_to}
use Rattle.wat_valid.specs.declared.module.Reason.{Reason}
use Rattle.wat_valid.specs.declared.module.Reason.TheVariants as reason
use Rattle.wat_valid.specs.Contexts.{Context, use_type}
use Rattle.wat_valid.specs.Headers.{ExportViolates, ExternViolates, MemoryFits, MemoryViolates, ModeFits, ModeViolates, StartViolates, TableViolates, UseIsValid, UseViolates, CodeIsValid, ConditionsArePartsOfValidity, HeaderIsValid, HeaderViolates, HeadersAreValid, Violates}
use Rattle.wat_valid.specs.Instructions.{Expression}
use Rattle.wat_valid.specs.Modules as validation
use Rattle.wat_valid.specs.Modules.{ExternIsValid, TableIsValid, item_count, FieldIsValid, ModuleIsValid, export_names, function_context, initial_context_of, mems_in}
use Rattle.wat_valid.proofs.Distinct.{not_distinct}

-- the context of constant expressions: other globals
abbrev with : Context → List GlobalType → Context
with C gs = record C { globals = gs }

pub header : (C : Context) (gs : List GlobalType) (f : Field) → FieldIsValid C (with C gs) f → HeaderIsValid C f
header C gs (TypeField l t) h = h
header C gs (field.Import m n l names t) h = h
header C gs (Func f) h = record { type = h.type; is = h.uses }
header C gs (Table l names t es) h = h.0
header C gs (Memory l names t bytes) h = h
header C gs (Global l names t is) h = tt
header C gs (field.Export name s i) h = h
header C gs (Start i) h = h
header C gs (field.Data l None bytes) h = tt
header C gs (field.Data l (Some target) bytes) h = h.memory
header C gs (field.Elem l Passive t es) h = tt
header C gs (field.Elem l (Active target) t es) h = let e = h.0 in record { table = e.table; exists = e.exists; element = e.element }
header C gs (field.Elem l Declarative t es) h = tt

pub same_some : {A : Type 0} (o : Option A) (t u : A) → o ≡ Some t → o ≡ Some u → t ≡ u
same_some o t u e f = let k = sym e ∙ f in cc

pub code : (C : Context) (gs : List GlobalType) (f : Field) → FieldIsValid C (with C gs) f → CodeIsValid C (with C gs) f
code C gs (TypeField l t) h = tt
code C gs (field.Import m n l names t) h = tt
code C gs (Func f) h = λ t e. subst (λ u. Expression (function_context C u f.locals) (u.results ∷ []) f.body u.results) (same_some (use_type C.types f.uses) h.type t h.uses e) h.body
code C gs (Table l names t es) h = h.1
code C gs (Memory l names t bytes) h = tt
code C gs (Global l names t is) h = h
code C gs (field.Export name s i) h = tt
code C gs (Start i) h = tt
code C gs (field.Data l None bytes) h = tt
code C gs (field.Data l (Some target) bytes) h = h.offset
code C gs (field.Elem l Passive t es) h = (tt, h.1)
code C gs (field.Elem l (Active target) t es) h = let e = h.0 in (e.offset, h.1)
code C gs (field.Elem l Declarative t es) h = (tt, h.1)

pub both : (C : Context) (gs : List GlobalType) (f : Field) → HeaderIsValid C f → CodeIsValid C (with C gs) f → FieldIsValid C (with C gs) f
both C gs (TypeField l t) h k = tt
both C gs (field.Import m n l names t) h k = h
both C gs (Func f) h k = record { type = h.type; uses = h.is; body = k h.type h.is }
both C gs (Table l names t es) h k = (h, k)
both C gs (Memory l names t bytes) h k = h
both C gs (Global l names t is) h k = k
both C gs (field.Export name s i) h k = h
both C gs (Start i) h k = h
both C gs (field.Data l None bytes) h k = tt
both C gs (field.Data l (Some target) bytes) h k = record { memory = h; offset = k }
both C gs (field.Elem l Passive t es) h k = (tt, k.1)
both C gs (field.Elem l (Active target) t es) h k = (record { table = h.table; exists = h.exists; element = h.element; offset = k.0 }, k.1)
both C gs (field.Elem l Declarative t es) h k = (tt, k.1)

pub each : {A : Type 0} (P Q : A → Type 0) → ((x : A) → P x → Q x) → (xs : List A) → AllByRecursion P xs → AllByRecursion Q xs
each P Q f [] h = tt
each P Q f (x ∷ xs) h = (f x h.0, each P Q f xs h.1)

pub each_both : {A : Type 0} (P Q R : A → Type 0) → ((x : A) → P x → Q x → R x) → (xs : List A) → AllByRecursion P xs → AllByRecursion Q xs → AllByRecursion R xs
each_both P Q R f [] h k = tt
each_both P Q R f (x ∷ xs) h k = (f x h.0 k.0, each_both P Q R f xs h.1 k.1)

-- what holds of all holds of one
pub at : {A : Type 0} (P : A → Type 0) (xs : List A) (i : ℕ) (x : A) → AllByRecursion P xs → slice_get xs i ≡ Some x → P x
at P [] i x h e = cc
at P (y ∷ xs) zero x h e = subst P (same_some (Some y) y x refl e) h.0
at P (y ∷ xs) (suc i) x h e = at P xs i x h.1 e

-- a field that violates a condition is not valid
not_extern : (C : Context) (t : ExternType) (r : Reason) → ExternViolates C t r → ExternIsValid C t → ⊥
not_extern C (FuncType u) reason.UnknownType v h = let k = sym v ∙ h.1 in cc
not_extern C (OfTable t) reason.Limits v h = v h
not_extern C (OfMemory l) reason.Limits v h = v h
not_extern C t r v h = absurd v

not_use : (C : Context) (u : TypeUse) (r : Reason) → UseViolates C u r → UseIsValid C.types u → ⊥
not_use C u reason.UnknownType v h = let k = sym v ∙ h.is in cc
not_use C u r v h = absurd v

not_table : (t : TableType) (r : Reason) → TableViolates t r → TableIsValid t → ⊥
not_table t reason.Limits v h = v h
not_table t r v h = absurd v

not_export : (C : Context) (s : IndexSpace) (i : ℕ) (r : Reason) → ExportViolates C s i r → i < item_count C s → ⊥
not_export C space.Func i (reason.UnknownItem space.Func) v h = omega (arith, v, h)
not_export C space.Table i (reason.UnknownItem space.Table) v h = omega (arith, v, h)
not_export C space.Mem i (reason.UnknownItem space.Mem) v h = omega (arith, v, h)
not_export C space.Global i (reason.UnknownItem space.Global) v h = omega (arith, v, h)
not_export C s i r v h = absurd v

not_start : (C : Context) (i : ℕ) (r : Reason) → StartViolates C i r → slice_get C.funcs i ≡ Some (from_to [] []) → ⊥
not_start C i (reason.UnknownItem space.Func) v h = let k = sym (slice_get_past C.funcs i v) ∙ h in cc
not_start C i reason.StartType v h = v.2 (same_some (slice_get C.funcs i) v.0 (from_to [] []) v.1 h)
not_start C i r v h = absurd v

not_memory : (C : Context) (t : Option Target) (r : Reason) → MemoryViolates C t r → MemoryFits C t → ⊥
not_memory C (Some target) (reason.UnknownItem space.Mem) v h = omega (arith, v, h)
not_memory C t r v h = absurd v

not_mode : (C : Context) (t : ReferenceType) (m : ElemMode) (r : Reason) → ModeViolates C t m r → ModeFits C t m → ⊥
not_mode C t (Active target) (reason.UnknownItem space.Table) v h = let k = sym (slice_get_past C.tables target.index v) ∙ h.exists in cc
not_mode C t (Active target) reason.ElementType v h = v.2 (ap (λ (x : TableType). x.element) (same_some (slice_get C.tables target.index) v.0 h.table v.1 h.exists) ∙ h.element)
not_mode C t m r v h = absurd v

pub not_header : (C : Context) (f : Field) (r : Reason) → HeaderViolates C f r → HeaderIsValid C f → ⊥
not_header C (TypeField l t) r v h = v
not_header C (field.Import m n l names t) r v h = not_extern C t r v h
not_header C (Func f) r v h = not_use C f.uses r v h
not_header C (Table l names t es) r v h = not_table t r v h
not_header C (Memory l names t bytes) r v h = not_extern C (OfMemory t) r v h
not_header C (Global l names t is) r v h = v
not_header C (field.Export name s i) r v h = not_export C s i r v h
not_header C (Start i) r v h = not_start C i r v h
not_header C (field.Data l t bytes) r v h = not_memory C t r v h
not_header C (field.Elem l m t es) r v h = not_mode C t m r v h

-- the fields up to one, and those after it
pub cut : (fs : List Field) (i : ℕ) (f : Field) → slice_get fs i ≡ Some f → (take i fs ++ f ∷ []) ++ drop (suc i) fs ≡ fs
cut [] i f e = cc
cut (x ∷ xs) zero f e = ap (λ y. y ∷ xs) (same_some (Some x) f x e refl)
cut (x ∷ xs) (suc i) f e = ap (λ ys. x ∷ ys) (cut xs i f e)

pub contradicts : (C : Context) (fs : List Field) (i : ℕ) (f : Field) (r : Reason) → slice_get fs i ≡ Some f → Violates C (take i fs) f r → HeadersAreValid C fs → ⊥
contradicts C fs i f reason.SecondMemory e v h =
    let rest = drop (suc i) fs in
    let sum = ap length (sym (ap (flat_map mems_in) (cut fs i f e)) ∙ flat_map-append mems_in (take i fs ++ f ∷ []) rest) ∙ length-append (flat_map mems_in (take i fs ++ f ∷ [])) (flat_map mems_in rest) in
    omega (arith, sum, v.1, h.memories)
contradicts C fs i f reason.DuplicateExport e v h =
    let rest = drop (suc i) fs in
    let k = sym (not_distinct (flat_map export_names (take i fs ++ f ∷ [])) (flat_map export_names rest) v.2) ∙ ap are_distinct (sym (flat_map-append export_names (take i fs ++ f ∷ []) rest) ∙ ap (flat_map export_names) (cut fs i f e)) ∙ h.exports in
    cc
contradicts C fs i f r e v h = not_header C f r v (at (HeaderIsValid C) fs i f h.fields e)

-- the last of some fields violates no condition, if they meet all
last_of : {A : Type 0} (P : A → Type 0) (xs : List A) (x : A) → AllByRecursion P (xs ++ x ∷ []) → P x
last_of P [] x h = h.0
last_of P (y ∷ xs) x h = last_of P xs x h.1

pub not_after : (C : Context) (before : List Field) (f : Field) (r : Reason) → Violates C before f r → HeadersAreValid C (before ++ f ∷ []) → ⊥
not_after C before f reason.SecondMemory v h = omega (arith, v.1, h.memories)
not_after C before f reason.DuplicateExport v h = let k = sym v.2 ∙ h.exports in cc
not_after C before f r v h = not_header C f r v (last_of (HeaderIsValid C) before f h.fields)

pub parts : ConditionsArePartsOfValidity
parts = record {
  headers = λ fs m. record {
    fields = each (FieldIsValid (validation.context_of fs) (initial_context_of fs)) (HeaderIsValid (validation.context_of fs)) (header (validation.context_of fs) (initial_context_of fs).globals) fs m.fields;
    memories = m.memories;
    exports = m.exports;
  };
  code = λ fs m. each (FieldIsValid (validation.context_of fs) (initial_context_of fs)) (CodeIsValid (validation.context_of fs) (initial_context_of fs)) (code (validation.context_of fs) (initial_context_of fs).globals) fs m.fields;
  all = λ fs h k. record {
    fields = each_both (HeaderIsValid (validation.context_of fs)) (CodeIsValid (validation.context_of fs) (initial_context_of fs)) (FieldIsValid (validation.context_of fs) (initial_context_of fs)) (both (validation.context_of fs) (initial_context_of fs).globals) fs h.fields k;
    memories = h.memories;
    exports = h.exports;
  };
  violation = λ fs i r v m.
      contradicts (validation.context_of fs) fs i v.field r v.is v.violates
      (record {
        fields = each (FieldIsValid (validation.context_of fs) (initial_context_of fs)) (HeaderIsValid (validation.context_of fs)) (header (validation.context_of fs) (initial_context_of fs).globals) fs m.fields;
        memories = m.memories;
        exports = m.exports;
      });
}
