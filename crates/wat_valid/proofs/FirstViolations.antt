-- The first field that violates a condition.
use Rattle.std.proofs.Common.{◌≡◌, ◌∙◌, ◌<◌, ◌≤◌, ◌+◌, ℕ, zero, suc, Bool, true, false, List, [], ◌∷◌, ◌++◌, Some, None, length, map, take, get_or, refl, sym, ap, subst, append-nil, arith}
use Rattle.std.specs.List.{AllByRecursion, flat_map}
use Rattle.std.specs.Option.{option_map}
use Rattle.std.proofs.lemmas.Option.{slice_get-get_or, slice_get-map}
use Rattle.std.proofs.lemmas.Grind.{flat_map-append}
use Rattle.std.proofs.lemmas.List.{length-append}
use Rattle.wat_module_ast.specs.declared.fields.Field as declared
use Rattle.wat_module_ast.specs.declared.fields.IndexSpace.TheVariants as space
use Rattle.wat_module_ast.specs.Fields.{Passive, Active, Declarative, FuncType, OfTable, OfMemory, OfGlobal, Field, TypeField, Func, Table, Memory, Global, Start}
use Rattle.wat_module_ast.specs.Fields as field
use Rattle.wat_module_ast.specs.Names.{are_distinct}
use Rattle.wat_module_ast.specs.Views.{field_of}
use Rattle.wat_valid.specs.declared.module.Reason.{Reason}
use Rattle.wat_valid.specs.declared.module.Reason.TheVariants as reason
use Rattle.wat_valid.specs.Contexts.{Context}
use Rattle.wat_valid.specs.Headers.{FirstViolation, HeaderIsValid, HeaderViolates, HeadersAreValid, Violates}
use Rattle.wat_valid.specs.Modules.{export_names, mems_in}

no_memory : (C : Context) (f : Field) → HeaderViolates C f reason.SecondMemory → ⊥
no_memory C (TypeField l t) h = h
no_memory C (field.Import m n l names (FuncType u)) h = h
no_memory C (field.Import m n l names (OfTable u)) h = h
no_memory C (field.Import m n l names (OfMemory u)) h = h
no_memory C (field.Import m n l names (OfGlobal u)) h = h
no_memory C (Func f) h = h
no_memory C (Table l names t es) h = h
no_memory C (Memory l names t bytes) h = h
no_memory C (Global l names t is) h = h
no_memory C (field.Export name space.Func i) h = h
no_memory C (field.Export name space.Table i) h = h
no_memory C (field.Export name space.Mem i) h = h
no_memory C (field.Export name space.Global i) h = h
no_memory C (Start i) h = h
no_memory C (field.Data l None bytes) h = h
no_memory C (field.Data l (Some t) bytes) h = h
no_memory C (field.Elem l Passive t es) h = h
no_memory C (field.Elem l (Active target) t es) h = h
no_memory C (field.Elem l Declarative t es) h = h

no_export : (C : Context) (f : Field) → HeaderViolates C f reason.DuplicateExport → ⊥
no_export C (TypeField l t) h = h
no_export C (field.Import m n l names (FuncType u)) h = h
no_export C (field.Import m n l names (OfTable u)) h = h
no_export C (field.Import m n l names (OfMemory u)) h = h
no_export C (field.Import m n l names (OfGlobal u)) h = h
no_export C (Func f) h = h
no_export C (Table l names t es) h = h
no_export C (Memory l names t bytes) h = h
no_export C (Global l names t is) h = h
no_export C (field.Export name space.Func i) h = h
no_export C (field.Export name space.Table i) h = h
no_export C (field.Export name space.Mem i) h = h
no_export C (field.Export name space.Global i) h = h
no_export C (Start i) h = h
no_export C (field.Data l None bytes) h = h
no_export C (field.Data l (Some t) bytes) h = h
no_export C (field.Elem l Passive t es) h = h
no_export C (field.Elem l (Active target) t es) h = h
no_export C (field.Elem l Declarative t es) h = h

pub violated : (C : Context) (before : List Field) (f : Field) (r : Reason) → HeaderViolates C f r → Violates C before f r
violated C before f reason.Limits h = h
violated C before f reason.UnknownType h = h
violated C before f (reason.UnknownItem s) h = h
violated C before f reason.StartType h = h
violated C before f reason.ElementType h = h
violated C before f reason.SecondMemory h = absurd (no_memory C f h)
violated C before f reason.DuplicateExport h = absurd (no_export C f h)

pub taken_of : {A B : Type 0} (g : A → B) (i : ℕ) (xs : List A) → map g (take i xs) ≡ take i (map g xs)
taken_of g zero xs = refl
taken_of g (suc i) [] = refl
taken_of g (suc i) (x ∷ xs) = ap (λ ys. g x ∷ ys) (taken_of g i xs)

pub one_on : {A B : Type 0} (g : A → List B) (xs : List A) (y : A) → flat_map g (xs ++ y ∷ []) ≡ flat_map g xs ++ g y
one_on g xs y = flat_map-append g xs (y ∷ []) ∙ ap (λ zs. flat_map g xs ++ zs) (append-nil (g y))

pub first : (C : Context) (fields : List declared.Field) (f d : declared.Field) (i : ℕ) (r : Reason) → i < length fields → f ≡ get_or fields i d → AllByRecursion (HeaderIsValid C) (map field_of (take i fields)) → length (flat_map mems_in (map field_of (take i fields))) ≤ 1 → are_distinct (flat_map export_names (map field_of (take i fields))) ≡ true → Violates C (map field_of (take i fields)) (field_of f) r → FirstViolation C (map field_of fields) i r
first C fields f d i r l e all few distinct v = record {
  field = field_of f;
  is = slice_get-map field_of fields i ∙ ap (option_map field_of) (slice_get-get_or fields i d l) ∙ ap (λ x. Some (field_of x)) (sym e);
  before = subst (HeadersAreValid C) (taken_of field_of i fields) (record { fields = all; memories = few; exports = distinct });
  violates = subst (λ fs. Violates C fs (field_of f) r) (taken_of field_of i fields) v;
}

memories_more : (before : List Field) (f : Field) (n m : ℕ) → n ≡ length (flat_map mems_in before) → m ≡ length (mems_in f) → length (flat_map mems_in (before ++ f ∷ [])) ≡ n + m
memories_more before f n m e k = let sum = ap length (one_on mems_in before f) ∙ length-append (flat_map mems_in before) (mems_in f) in omega (arith, sum, e, k)

pub too_many : (C : Context) (before : List Field) (f : Field) (n m : ℕ) → HeaderIsValid C f → n ≡ length (flat_map mems_in before) → m ≡ length (mems_in f) → 1 < n + m → Violates C before f reason.SecondMemory
too_many C before f n m h e k l = (h, omega (arith, memories_more before f n m e k, l))

repeating : (before : List Field) (f : Field) (b : Bool) → b ≡ are_distinct (flat_map export_names before ++ export_names f) → b ≡ false → are_distinct (flat_map export_names (before ++ f ∷ [])) ≡ false
repeating before f b e k = ap are_distinct (one_on export_names before f) ∙ sym e ∙ k

pub repeated : (C : Context) (before : List Field) (f : Field) (n m : ℕ) (b : Bool) → HeaderIsValid C f → n ≡ length (flat_map mems_in before) → m ≡ length (mems_in f) → n + m ≤ 1 → b ≡ are_distinct (flat_map export_names before ++ export_names f) → b ≡ false → Violates C before f reason.DuplicateExport
repeated C before f n m b h e k l g i = (h, omega (arith, memories_more before f n m e k, l), repeating before f b g i)
