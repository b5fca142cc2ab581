-- The first field of a module that is not valid.
use Rattle.std.proofs.Common.{◌≡◌, ◌∙◌, ◌<◌, ◌++◌, ℕ, zero, suc, Bool, true, false, List, [], ◌∷◌, Option, Some, None, length, take, drop, map, get_or, refl, sym, ap, subst, arith}
use Rattle.std.specs.List.{AllByRecursion, flat_map}
use Rattle.std.specs.Option.{option_map}
use Rattle.std.specs.Prelude.{◌↔◌, IfOk, IsTrue, MatchOption, Result, Ok, Err, slice_get}
use Rattle.std.proofs.lemmas.Grind.{flat_map-append}
use Rattle.std.proofs.lemmas.List.{length-append, length-map, take-append-drop}
use Rattle.std.proofs.lemmas.Option.{slice_get-get_or, slice_get-map, slice_get_within}
use Rattle.wat_module_ast.specs.declared.fields.Field as declared_field
use Rattle.wat_module_ast.specs.declared.instruction.Instruction.{Instruction}
use Rattle.wat_module_ast.specs.declared.instruction.ReferenceType.{ReferenceType}
use Rattle.wat_module_ast.specs.declared.instruction.ValueType.TheVariants as value
use Rattle.wat_module_ast.specs.Fields.{ElemMode, Elements, Passive, Active, Declarative, Field, Function, TypeField, Func, Table, Memory, Global, Start, Target}
use Rattle.wat_module_ast.specs.Fields as field
use Rattle.wat_module_ast.specs.Names.{are_distinct}
use Rattle.wat_module_ast.specs.Types.{FunctionType}
use Rattle.wat_valid.specs.declared.code.Cause.{Cause}
use Rattle.wat_valid.specs.declared.code.Cause.TheVariants as cause
use Rattle.wat_module_ast.specs.Views.{field_of}
use Rattle.wat_valid.specs.declared.code.Invalid.{Invalid}
use Rattle.wat_valid.specs.declared.module.Reason.{Reason}
use Rattle.wat_valid.specs.declared.module.Violation.{Violation}
use Rattle.wat_valid.specs.ContextViews.{Represents}
use Rattle.wat_valid.specs.Contexts.{Context, use_type}
use Rattle.wat_valid.specs.FirstErrors.{BodyFails, CodeFails, ElementErrorAt, Fails, FieldsAreValid, FirstCodeError, FirstFailure, FirstInvalid, FirstInvalidIsNotValid, PartsAreValid}
use Rattle.wat_valid.specs.Headers.{CodeIsValid, FirstViolation, HeaderIsValid, HeadersAreValid, ModeOffsetIsValid}
use Rattle.wat_valid.specs.Instructions.{Constant, Expression}
use Rattle.wat_valid.specs.Modules as validation
use Rattle.wat_valid.specs.Modules.{ElementsAreValid, FieldIsValid, InlineElementsAreValid, ModuleIsValid, export_names, function_context, initial_context_of, mems_in}
use Rattle.wat_valid.proofs.Conditions.{at, both, contradicts, each, each_both, parts, same_some}
use Rattle.wat_valid.proofs.Distinct.{not_distinct}
use Rattle.wat_valid.proofs.FirstViolations.{taken_of}
use Rattle.wat_valid.proofs.OtherRefs.{valid_without, violates_without}
use Rattle.wat_valid.proofs.Represented.{SameRefs, body_there, constant_back, constant_there, error_there, refer}

-- a prefix of valid fields is valid

some_of : {A : Type 0} (P : A → Type 0) (i : ℕ) (xs : List A) → AllByRecursion P xs → AllByRecursion P (take i xs)
some_of P zero xs h = tt
some_of P (suc i) [] h = tt
some_of P (suc i) (x ∷ xs) h = (h.0, some_of P i xs h.1)

no_more : (b : Bool) → (b ≡ false → ⊥) → b ≡ true
no_more true n = refl
no_more false n = absurd (n refl)

headers_before : (C : Context) (fs : List Field) (i : ℕ) → HeadersAreValid C fs → HeadersAreValid C (take i fs)
headers_before C fs i h =
    let whole = take-append-drop i fs in
    record {
      fields = some_of (HeaderIsValid C) i fs h.fields;
      memories = let sum = ap length (sym (ap (flat_map mems_in) whole) ∙ flat_map-append mems_in (take i fs) (drop i fs)) ∙ length-append (flat_map mems_in (take i fs)) (flat_map mems_in (drop i fs)) in omega (arith, sum, h.memories);
      exports = no_more (are_distinct (flat_map export_names (take i fs))) (λ e. let k = sym (not_distinct (flat_map export_names (take i fs)) (flat_map export_names (drop i fs)) e) ∙ ap are_distinct (sym (flat_map-append export_names (take i fs) (drop i fs)) ∙ ap (flat_map export_names) whole) ∙ h.exports in cc);
    }

up_to : (fs : List Field) (i : ℕ) (f : Field) → slice_get fs i ≡ Some f → take i fs ++ f ∷ [] ≡ take (suc i) fs
up_to [] i f e = cc
up_to (x ∷ xs) zero f e = ap (λ y. y ∷ []) (same_some (Some x) f x e refl)
up_to (x ∷ xs) (suc i) f e = ap (λ ys. x ∷ ys) (up_to xs i f e)

-- an error in instructions is the first failure, if all other conditions are met

no_header : (C D : Context) (f : Field) (r : Reason) → CodeFails C D f (cause.Header r) → ⊥
no_header C D (TypeField l t) r k = k
no_header C D (field.Import m n l names t) r k = k
no_header C D (Func f) r k = k
no_header C D (Table l names t None) r k = k
no_header C D (Table l names t (Some es)) r k = k
no_header C D (Memory l names t bytes) r k = k
no_header C D (Global l names t is) r k = k
no_header C D (field.Export name s i) r k = k
no_header C D (Start i) r k = k
no_header C D (field.Data l None bytes) r k = k
no_header C D (field.Data l (Some target) bytes) r k = k
no_header C D (field.Elem l m t es) r k = k

failure_of : (C D : Context) (before : List Field) (f : Field) (c : Cause) → HeadersAreValid C (before ++ f ∷ []) → CodeFails C D f c → Fails C D before f c
failure_of C D before f (cause.Header r) h k = absurd (no_header C D f r k)
failure_of C D before f (cause.Body i) h k = (h, k)
failure_of C D before f cause.InitialValue h k = (h, k)
failure_of C D before f cause.Offset h k = (h, k)
failure_of C D before f (cause.Element i) h k = (h, k)

pub code_first : (C D : Context) (fs : List Field) (i : ℕ) (c : Cause) → HeadersAreValid C fs → FirstCodeError C D fs i c → FirstFailure C D fs i c
code_first C D fs i c h k = record {
  field = k.field;
  is = k.is;
  before = record { headers = headers_before C fs i h; code = k.before };
  fails = failure_of C D (take i fs) k.field c (subst (HeadersAreValid C) (sym (up_to fs i k.field k.is)) (headers_before C fs (suc i) h)) k.fails;
}

pub header_first : (C D : Context) (fs : List Field) (i : ℕ) (r : Reason) → FirstViolation C fs i r → AllByRecursion (CodeIsValid C D) (take i fs) → FirstFailure C D fs i (cause.Header r)
header_first C D fs i r v k = record { field = v.field; is = v.is; before = record { headers = v.before; code = k }; fails = v.violates }

-- the first failure of a prefix is that of the whole

pub within_take : (n : ℕ) (fs : List Field) (i : ℕ) (f : Field) → slice_get (take n fs) i ≡ Some f → (slice_get fs i ≡ Some f) × (take i (take n fs) ≡ take i fs)
within_take zero fs i f e = cc
within_take (suc n) [] i f e = cc
within_take (suc n) (x ∷ xs) zero f e = (e, refl)
within_take (suc n) (x ∷ xs) (suc i) f e = let k = within_take n xs i f e in (k.0, ap (λ ys. x ∷ ys) k.1)

pub longer : (C D : Context) (fs : List Field) (n i : ℕ) (c : Cause) → FirstFailure C D (take n fs) i c → FirstFailure C D fs i c
longer C D fs n i c k =
    let w = within_take n fs i k.field k.is in
    record {
      field = k.field;
      is = w.0;
      before = subst (PartsAreValid C D) w.1 k.before;
      fails = subst (λ (before : List Field). Fails C D before k.field c) w.1 k.fails;
    }

-- the first element or field of a list that is not valid

pub first_element : {A : Type 0} (D : Context) (t : ReferenceType) (g : A → List Instruction) (xs : List A) (x d : A) (i : ℕ) → i < length xs → x ≡ get_or xs i d → ElementsAreValid D t (map g (take i xs)) → (Constant D (g x) (value.Reference t) → ⊥) → ElementErrorAt D t (map g xs) i
first_element D t g xs x d i l e all n = record {
  element = g x;
  is = slice_get-map g xs i ∙ ap (option_map g) (slice_get-get_or xs i d l) ∙ ap (λ y. Some (g y)) (sym e);
  before = subst (ElementsAreValid D t) (taken_of g i xs) all;
  invalid = n;
}

pub first_field : {A : Type 0} (C D : Context) (g : A → Field) (xs : List A) (x d : A) (i : ℕ) (c : Cause) → i < length xs → x ≡ get_or xs i d → AllByRecursion (CodeIsValid C D) (map g (take i xs)) → CodeFails C D (g x) c → FirstCodeError C D (map g xs) i c
first_field C D g xs x d i c l e all k = record {
  field = g x;
  is = slice_get-map g xs i ∙ ap (option_map g) (slice_get-get_or xs i d l) ∙ ap (λ y. Some (g y)) (sym e);
  before = subst (AllByRecursion (CodeIsValid C D)) (taken_of g i xs) all;
  fails = k;
}

pub not_from : (b : Bool) (P : Type 0) → IsTrue b ↔ P → b ≡ false → P → ⊥
not_from b P h e p = let t = h.1 p in let k = sym e ∙ t in cc

pub failed : (C D : Context) (f : Field) (found : Option Cause) (c : Cause) → found ≡ Some c → MatchOption found (CodeIsValid C D f) (λ x. CodeFails C D f x) → CodeFails C D f c
failed C D f found c e h = subst (λ (o : Option Cause). MatchOption o (CodeIsValid C D f) (λ x. CodeFails C D f x)) e h

-- the code's contexts represent those of the module

elements_there : (D : Context) (ss : List ℕ) → SameRefs D ss → (t : ReferenceType) (es : Elements) → ElementsAreValid (refer ss D) t es → ElementsAreValid D t es
elements_there D ss s t es h = each (λ is. Constant (refer ss D) is (value.Reference t)) (λ is. Constant D is (value.Reference t)) (λ is k. constant_there D ss s is (value.Reference t) k) es h

mode_there : (D : Context) (ss : List ℕ) → SameRefs D ss → (m : ElemMode) → ModeOffsetIsValid (refer ss D) m → ModeOffsetIsValid D m
mode_there D ss s Passive h = tt
mode_there D ss s (Active target) h = constant_there D ss s target.offset value.I32 h
mode_there D ss s Declarative h = tt

code_there : (C D : Context) (rs ss : List ℕ) → SameRefs C rs → SameRefs D ss → (f : Field) → CodeIsValid (refer rs C) (refer ss D) f → CodeIsValid C D f
code_there C D rs ss r s (TypeField l t) h = tt
code_there C D rs ss r s (field.Import m n l names t) h = tt
code_there C D rs ss r s (Func f) h = λ t e. body_there (function_context C t f.locals) rs r f.body t.results (h t e)
code_there C D rs ss r s (Table l names t None) h = tt
code_there C D rs ss r s (Table l names t (Some es)) h = elements_there D ss s t.element es h
code_there C D rs ss r s (Memory l names t bytes) h = tt
code_there C D rs ss r s (Global l names t is) h = constant_there D ss s is t.value h
code_there C D rs ss r s (field.Export name x i) h = tt
code_there C D rs ss r s (Start i) h = tt
code_there C D rs ss r s (field.Data l None bytes) h = tt
code_there C D rs ss r s (field.Data l (Some target) bytes) h = constant_there D ss s target.offset value.I32 h
code_there C D rs ss r s (field.Elem l m t es) h = (mode_there D ss s m h.0, elements_there D ss s t es h.1)

pub parts_there : (C D : Context) (rs ss : List ℕ) → SameRefs C rs → SameRefs D ss → (fs : List Field) → PartsAreValid (refer rs C) (refer ss D) fs → PartsAreValid C D fs
parts_there C D rs ss r s fs p = record {
  headers = valid_without C rs fs p.headers;
  code = each (CodeIsValid (refer rs C) (refer ss D)) (CodeIsValid C D) (code_there C D rs ss r s) fs p.code;
}

element_there : (D : Context) (ss : List ℕ) → SameRefs D ss → (t : ReferenceType) (es : Elements) (i : ℕ) → ElementErrorAt (refer ss D) t es i → ElementErrorAt D t es i
element_there D ss s t es i e = record {
  element = e.element;
  is = e.is;
  before = elements_there D ss s t (take i es) e.before;
  invalid = λ k. e.invalid (constant_back D ss s e.element (value.Reference t) k);
}

body_fails_there : (C : Context) (rs : List ℕ) → SameRefs C rs → (f : Function) (c : Cause) → BodyFails (refer rs C) f c → BodyFails C f c
body_fails_there C rs r f (cause.Body i) k = (k.0, k.1, error_there (function_context C k.0 f.locals) rs r f.body k.0.results i k.2)
body_fails_there C rs r f c k = absurd k

fails_there : (C D : Context) (rs ss : List ℕ) → SameRefs C rs → SameRefs D ss → (f : Field) (c : Cause) → CodeFails (refer rs C) (refer ss D) f c → CodeFails C D f c
fails_there C D rs ss r s (TypeField l t) c k = k
fails_there C D rs ss r s (field.Import m n l names t) c k = k
fails_there C D rs ss r s (Func f) c k = body_fails_there C rs r f c k
fails_there C D rs ss r s (Table l names t None) c k = k
fails_there C D rs ss r s (Table l names t (Some es)) (cause.Element i) k = element_there D ss s t.element es i k
fails_there C D rs ss r s (Table l names t (Some es)) c k = absurd k
fails_there C D rs ss r s (Memory l names t bytes) c k = k
fails_there C D rs ss r s (Global l names t is) cause.InitialValue k = λ v. k (constant_back D ss s is t.value v)
fails_there C D rs ss r s (Global l names t is) c k = absurd k
fails_there C D rs ss r s (field.Export name x i) c k = k
fails_there C D rs ss r s (Start i) c k = k
fails_there C D rs ss r s (field.Data l None bytes) c k = absurd k
fails_there C D rs ss r s (field.Data l (Some target) bytes) cause.Offset k = λ v. k (constant_back D ss s target.offset value.I32 v)
fails_there C D rs ss r s (field.Data l (Some target) bytes) c k = absurd k
fails_there C D rs ss r s (field.Elem l (Active target) t es) cause.Offset k = λ v. k (constant_back D ss s target.offset value.I32 v)
fails_there C D rs ss r s (field.Elem l m t es) (cause.Element i) k = (mode_there D ss s m k.0, element_there D ss s t es i k.1)
fails_there C D rs ss r s (field.Elem l m t es) c k = absurd k

either_there : (C D : Context) (rs ss : List ℕ) → SameRefs C rs → SameRefs D ss → (before : List Field) (f : Field) (c : Cause) → Fails (refer rs C) (refer ss D) before f c → Fails C D before f c
either_there C D rs ss r s before f (cause.Header x) k = violates_without C rs before f x k
either_there C D rs ss r s before f (cause.Body i) k = (valid_without C rs (before ++ f ∷ []) k.0, fails_there C D rs ss r s f (cause.Body i) k.1)
either_there C D rs ss r s before f cause.InitialValue k = (valid_without C rs (before ++ f ∷ []) k.0, fails_there C D rs ss r s f cause.InitialValue k.1)
either_there C D rs ss r s before f cause.Offset k = (valid_without C rs (before ++ f ∷ []) k.0, fails_there C D rs ss r s f cause.Offset k.1)
either_there C D rs ss r s before f (cause.Element i) k = (valid_without C rs (before ++ f ∷ []) k.0, fails_there C D rs ss r s f (cause.Element i) k.1)

pub failure_there : (C D : Context) (rs ss : List ℕ) → SameRefs C rs → SameRefs D ss → (fs : List Field) (i : ℕ) (c : Cause) → FirstFailure (refer rs C) (refer ss D) fs i c → FirstFailure C D fs i c
failure_there C D rs ss r s fs i c k = record {
  field = k.field;
  is = k.is;
  before = parts_there C D rs ss r s (take i fs) k.before;
  fails = either_there C D rs ss r s (take i fs) k.field c k.fails;
}

-- both parts together are validity

pub is_valid : (fs : List Field) → PartsAreValid (validation.context_of fs) (initial_context_of fs) fs → ModuleIsValid fs
is_valid fs p = parts.all fs p.headers p.code

pub first_invalid : (fs : List Field) (i : ℕ) (c : Cause) → FirstFailure (validation.context_of fs) (initial_context_of fs) fs i c → FirstInvalid fs i c
first_invalid fs i c k = record {
  field = k.field;
  is = k.is;
  before = record {
    fields = each_both (HeaderIsValid (validation.context_of fs)) (CodeIsValid (validation.context_of fs) (initial_context_of fs)) (FieldIsValid (validation.context_of fs) (initial_context_of fs)) (both (validation.context_of fs) (initial_context_of fs).globals) (take i fs) k.before.headers.fields k.before.code;
    memories = k.before.headers.memories;
    exports = k.before.headers.exports;
  };
  fails = k.fails;
}

-- a failure excludes validity

not_body : (C : Context) (f : Function) (c : Cause) → BodyFails C f c → ((t : FunctionType) → use_type C.types f.uses ≡ Some t → Expression (function_context C t f.locals) (t.results ∷ []) f.body t.results) → ⊥
not_body C f (cause.Body i) k h = k.2.invalid (h k.0 k.1)
not_body C f c k h = absurd k

not_elements : (D : Context) (t : ReferenceType) (es : Elements) (i : ℕ) → ElementErrorAt D t es i → ElementsAreValid D t es → ⊥
not_elements D t es i e h = e.invalid (at (λ is. Constant D is (value.Reference t)) es i e.element h e.is)

not_code : (C D : Context) (f : Field) (c : Cause) → CodeFails C D f c → CodeIsValid C D f → ⊥
not_code C D (TypeField l t) c k h = k
not_code C D (field.Import m n l names t) c k h = k
not_code C D (Func f) c k h = not_body C f c k h
not_code C D (Table l names t None) c k h = k
not_code C D (Table l names t (Some es)) (cause.Element i) k h = not_elements D t.element es i k h
not_code C D (Table l names t (Some es)) c k h = absurd k
not_code C D (Memory l names t bytes) c k h = k
not_code C D (Global l names t is) cause.InitialValue k h = k h
not_code C D (Global l names t is) c k h = absurd k
not_code C D (field.Export name s i) c k h = k
not_code C D (Start i) c k h = k
not_code C D (field.Data l None bytes) c k h = absurd k
not_code C D (field.Data l (Some target) bytes) cause.Offset k h = k h
not_code C D (field.Data l (Some target) bytes) c k h = absurd k
not_code C D (field.Elem l (Active target) t es) cause.Offset k h = k h.0
not_code C D (field.Elem l m t es) (cause.Element i) k h = not_elements D t es i k.1 h.1
not_code C D (field.Elem l m t es) c k h = absurd k

pub fails_within : (C D : Context) (fs : List Field) (i : ℕ) (f : Field) (c : Cause) → slice_get fs i ≡ Some f → HeadersAreValid C fs → AllByRecursion (CodeIsValid C D) fs → Fails C D (take i fs) f c → ⊥
fails_within C D fs i f (cause.Header r) e h k v = contradicts C fs i f r e v h
fails_within C D fs i f c e h k v = not_code C D f c v.1 (at (CodeIsValid C D) fs i f k e)

pub excluded : FirstInvalidIsNotValid
excluded fs i c k m = fails_within (validation.context_of fs) (initial_context_of fs) fs i k.field c k.is (parts.headers fs m) (parts.code fs m) k.fails

-- the results of the checks, one after the other

abbrev pub CodesChecked : Context → Context → List Field → Option Invalid → Type 0
CodesChecked C D fs found = MatchOption found (AllByRecursion (CodeIsValid C D) fs) (λ v. FirstCodeError C D fs v.field v.cause)

abbrev pub Checked : Context → Context → List Field → Option Invalid → Type 0
Checked C D fs found = MatchOption found (PartsAreValid C D fs) (λ v. FirstFailure C D fs v.field v.cause)

pub code_checked : (C D : Context) (fs : List Field) (found : Option Invalid) → HeadersAreValid C fs → CodesChecked C D fs found → Checked C D fs found
code_checked C D fs None h k = record { headers = h; code = k }
code_checked C D fs (Some v) h k = code_first C D fs v.field v.cause h k

pub all_checked : {E : Type 0} (C D : Context) (fs : List Field) (r : Result (Option Invalid) E) → HeadersAreValid C fs → IfOk r (CodesChecked C D fs) → IfOk r (Checked C D fs)
all_checked C D fs (Ok found) h k = code_checked C D fs found h k
all_checked C D fs (Err e) h k = k

abbrev pub HeadersChecked : Context → List Field → Option Violation → Type 0
HeadersChecked C fs found = MatchOption found (HeadersAreValid C fs) (λ v. FirstViolation C fs v.field v.reason)

pub headers_valid : (C : Context) (fs : List Field) (found : Option Violation) → found ≡ None → HeadersChecked C fs found → HeadersAreValid C fs
headers_valid C fs found e h = subst (HeadersChecked C fs) e h

pub violated_first : (C : Context) (fs : List Field) (found : Option Violation) (v : Violation) → found ≡ Some v → HeadersChecked C fs found → FirstViolation C fs v.field v.reason
violated_first C fs found v e h = subst (HeadersChecked C fs) e h

pub is_within : (C : Context) (fields : List declared_field.Field) (i : ℕ) (r : Reason) → FirstViolation C (map field_of fields) i r → i < length fields
is_within C fields i r v = let l = slice_get_within (map field_of fields) i v.field v.is in let k = length-map fields field_of in omega (arith, l, k)

-- the instructions of the fields before a violation
pub code_before : (C D : Context) (fields : List declared_field.Field) (before : List declared_field.Field) (i : ℕ) (r : Reason) (found : Option Invalid) (v : Invalid) → before ≡ take i fields → FirstViolation C (map field_of fields) i r → found ≡ Some v → CodesChecked C D (map field_of before) found → FirstFailure C D (map field_of fields) v.field v.cause
code_before C D fields before i r found v e w s k =
    let same = ap (map field_of) e ∙ taken_of field_of i fields in
    longer C D (map field_of fields) i v.field v.cause (code_first C D (take i (map field_of fields)) v.field v.cause w.before (subst (λ fs. FirstCodeError C D fs v.field v.cause) same (subst (CodesChecked C D (map field_of before)) s k)))

pub no_code_before : (C D : Context) (fields : List declared_field.Field) (before : List declared_field.Field) (i : ℕ) (r : Reason) (found : Option Invalid) → before ≡ take i fields → FirstViolation C (map field_of fields) i r → found ≡ None → CodesChecked C D (map field_of before) found → FirstFailure C D (map field_of fields) i (cause.Header r)
no_code_before C D fields before i r found e w s k =
    let same = ap (map field_of) e ∙ taken_of field_of i fields in
    header_first C D (map field_of fields) i r w (subst (AllByRecursion (CodeIsValid C D)) same (subst (CodesChecked C D (map field_of before)) s k))

-- the whole check, in the code's contexts of a module

parts_as : (X Y C D : Context) (fs : List Field) → Represents X C → Represents Y D → PartsAreValid X Y fs → PartsAreValid C D fs
parts_as X Y C D fs r s p = parts_there C D X.refs Y.refs r.refs s.refs fs (subst (λ Z. PartsAreValid (refer X.refs C) Z fs) s.items (subst (λ Z. PartsAreValid Z Y fs) r.items p))

failure_as : (X Y C D : Context) (fs : List Field) (i : ℕ) (c : Cause) → Represents X C → Represents Y D → FirstFailure X Y fs i c → FirstFailure C D fs i c
failure_as X Y C D fs i c r s p = failure_there C D X.refs Y.refs r.refs s.refs fs i c (subst (λ Z. FirstFailure (refer X.refs C) Z fs i c) s.items (subst (λ Z. FirstFailure Z Y fs i c) r.items p))

abbrev pub First : List Field → Option Invalid → Type 0
First fs found = MatchOption found (ModuleIsValid fs) (λ v. FirstInvalid fs v.field v.cause)

pub module_first : (X Y : Context) (fs : List Field) (found : Option Invalid) → Represents X (validation.context_of fs) → Represents Y (initial_context_of fs) → Checked X Y fs found → First fs found
module_first X Y fs None r s k = is_valid fs (parts_as X Y (validation.context_of fs) (initial_context_of fs) fs r s k)
module_first X Y fs (Some v) r s k = first_invalid fs v.field v.cause (failure_as X Y (validation.context_of fs) (initial_context_of fs) fs v.field v.cause r s k)

is_none : (fs : List Field) (found : Option Invalid) → First fs found → (found ≡ None → ModuleIsValid fs) × (ModuleIsValid fs → found ≡ None)
is_none fs None h = (λ e. h, λ m. refl)
is_none fs (Some v) h = (λ e. cc, λ m. absurd (excluded fs v.field v.cause h m))

pub first_of_module : {E : Type 0} (X Y : Context) (fs : List Field) (r : Result (Option Invalid) E) → Represents X (validation.context_of fs) → Represents Y (initial_context_of fs) → IfOk r (Checked X Y fs) → IfOk r (First fs)
first_of_module X Y fs (Ok found) r s k = module_first X Y fs found r s k
first_of_module X Y fs (Err e) r s k = k

pub valid_module : {E : Type 0} (X Y : Context) (fs : List Field) (r : Result (Option Invalid) E) → Represents X (validation.context_of fs) → Represents Y (initial_context_of fs) → IfOk r (Checked X Y fs) → IfOk r (λ found. (found ≡ None) ↔ ModuleIsValid fs)
valid_module X Y fs (Ok found) r s k = is_none fs found (module_first X Y fs found r s k)
valid_module X Y fs (Err e) r s k = k
