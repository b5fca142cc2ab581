-- Function types that are the same are equal, and each is among those of its module.
use Rattle.std.proofs.Common.{◌≡◌, ◌<◌, ◌∙◌, ℕ, zero, suc, Bool, true, false, List, [], ◌∷◌, ◌++◌, length, map, drop, get_or, ◌+◌, Some, refl, sym, ap, subst, arith}
use Rattle.std.specs.Prelude.{◌==◌, ◌&&◌, Vec, if◌then◌else◌, slice_get, slice_index_or}
use Rattle.std.proofs.lemmas.Bool.Decides.{Decides-eqb}
use Rattle.wat_module_ast.specs.declared.instruction.Instruction.{Instruction}
use Rattle.wat_module_ast.specs.declared.instruction.ReferenceType.{ReferenceType}
use Rattle.wat_module_ast.specs.declared.instruction.ReferenceType.TheVariants as reference
use Rattle.wat_module_ast.specs.declared.instruction.ValueType.{ValueType}
use Rattle.wat_module_ast.specs.declared.instruction.ValueType.TheVariants as value
use Rattle.std.specs.List.{flat_map}
use Rattle.std.proofs.lemmas.List.{drop_more}
use Rattle.wat_module_ast.specs.declared.fields.Field as declared
use Rattle.wat_module_ast.specs.Views.{expression_of, field_of}
use Rattle.wat_module_ast.specs.Types.{FunctionType, reference_byte, same_type, same_values, type_byte}
use Rattle.wat_module_ast.specs.ImplicitTypes.{has_type, type_index, types_after, types_of, field_types, with_type}
use Rattle.wat_module_ast.specs.Uses.{expression_types}
use Rattle.wat_module_ast.specs.Fields.{definition_type, definitions_of, ref_func}
use Rattle.wat_module_ast.specs.Law.{TypesAreThere}

both : (a b : Bool) → a && b ≡ true → (a ≡ true) × (b ≡ true)
both true true e = (refl, refl)
both true false e = cc
both false b e = cc

-- value types of one byte are equal

reference_is : (t u : ReferenceType) → reference_byte t ≡ reference_byte u → t ≡ u
reference_is reference.Func reference.Func e = refl
reference_is reference.Extern reference.Extern e = refl
reference_is reference.Func reference.Extern e = absurd (omega (arith, e))
reference_is reference.Extern reference.Func e = absurd (omega (arith, e))

is_below : (t : ReferenceType) → reference_byte t < 0x7B
is_below reference.Func = omega arith
is_below reference.Extern = omega arith

value_is : (t u : ValueType) → type_byte t ≡ type_byte u → t ≡ u
value_is value.I32 value.I32 e = refl
value_is value.I64 value.I64 e = refl
value_is value.F32 value.F32 e = refl
value_is value.F64 value.F64 e = refl
value_is value.V128 value.V128 e = refl
value_is value.I32 value.I64 e = absurd (omega (arith, e))
value_is value.I32 value.F32 e = absurd (omega (arith, e))
value_is value.I32 value.F64 e = absurd (omega (arith, e))
value_is value.I64 value.I32 e = absurd (omega (arith, e))
value_is value.I64 value.F32 e = absurd (omega (arith, e))
value_is value.I64 value.F64 e = absurd (omega (arith, e))
value_is value.F32 value.I32 e = absurd (omega (arith, e))
value_is value.F32 value.I64 e = absurd (omega (arith, e))
value_is value.F32 value.F64 e = absurd (omega (arith, e))
value_is value.F64 value.I32 e = absurd (omega (arith, e))
value_is value.F64 value.I64 e = absurd (omega (arith, e))
value_is value.F64 value.F32 e = absurd (omega (arith, e))
value_is value.I32 value.V128 e = absurd (omega (arith, e))
value_is value.V128 value.I32 e = absurd (omega (arith, e))
value_is value.I64 value.V128 e = absurd (omega (arith, e))
value_is value.V128 value.I64 e = absurd (omega (arith, e))
value_is value.F32 value.V128 e = absurd (omega (arith, e))
value_is value.V128 value.F32 e = absurd (omega (arith, e))
value_is value.F64 value.V128 e = absurd (omega (arith, e))
value_is value.V128 value.F64 e = absurd (omega (arith, e))
value_is (value.Reference t) (value.Reference u) e = ap value.Reference (reference_is t u e)
value_is value.I32 (value.Reference t) e = absurd (omega (arith, e, is_below t))
value_is value.I64 (value.Reference t) e = absurd (omega (arith, e, is_below t))
value_is value.F32 (value.Reference t) e = absurd (omega (arith, e, is_below t))
value_is value.F64 (value.Reference t) e = absurd (omega (arith, e, is_below t))
value_is value.V128 (value.Reference t) e = absurd (omega (arith, e, is_below t))
value_is (value.Reference t) value.V128 e = absurd (omega (arith, e, is_below t))
value_is (value.Reference t) value.I32 e = absurd (omega (arith, e, is_below t))
value_is (value.Reference t) value.I64 e = absurd (omega (arith, e, is_below t))
value_is (value.Reference t) value.F32 e = absurd (omega (arith, e, is_below t))
value_is (value.Reference t) value.F64 e = absurd (omega (arith, e, is_below t))

values_are : (ts us : List ValueType) → same_values ts us ≡ true → ts ≡ us
values_are [] [] e = refl
values_are (t ∷ ts) (u ∷ us) e =
    let (a, b) = both (type_byte t == type_byte u) (same_values ts us) e in ap (λ x. x ∷ ts) (value_is t u ((Decides-eqb (type_byte t) (type_byte u)).0 a)) ∙ ap (λ xs. u ∷ xs) (values_are ts us b)
values_are [] (u ∷ us) e = cc
values_are (t ∷ ts) [] e = cc

values_same : (ts : List ValueType) → same_values ts ts ≡ true
values_same [] = refl
values_same (t ∷ ts) = ap (λ b. b && same_values ts ts) ((Decides-eqb (type_byte t) (type_byte t)).1 refl) ∙ values_same ts

abbrev a_type : List ValueType → List ValueType → FunctionType
a_type ps rs = record { params = ps; results = rs }

pub type_is : (t u : FunctionType) → same_type t u ≡ true → t ≡ u
type_is t u e =
    let (a, b) = both (same_values t.params u.params) (same_values t.results u.results) e in ap (λ x. a_type x t.results) (values_are t.params u.params a) ∙ ap (λ x. a_type u.params x) (values_are t.results u.results b)

pub type_same : (t : FunctionType) → same_type t t ≡ true
type_same t = ap (λ b. b && same_values t.results t.results) (values_same t.params) ∙ values_same t.results

-- a type that is among these is where its index says
there : (t : FunctionType) (us : List FunctionType) → has_type t us ≡ true → slice_get us (type_index t us) ≡ Some t
there t [] e = cc
there t (u ∷ us) e = by (same_type u t) refl e (λ h. there t us h)
  where
    by : (b : Bool) → same_type u t ≡ b → (if b then true else has_type t us) ≡ true → (has_type t us ≡ true → slice_get us (type_index t us) ≡ Some t) → slice_get (u ∷ us) (if b then 0 else suc (type_index t us)) ≡ Some t
    by true s h k = ap (λ x. Some x) (type_is u t s)
    by false s h k = k h

-- and also among more
still : (t : FunctionType) (us vs : List FunctionType) → has_type t us ≡ true → has_type t (us ++ vs) ≡ true
still t [] vs e = cc
still t (u ∷ us) vs e = by (same_type u t) e (λ h. still t us vs h)
  where
    by : (b : Bool) → (if b then true else has_type t us) ≡ true → (has_type t us ≡ true → has_type t (us ++ vs) ≡ true) → (if b then true else has_type t (us ++ vs)) ≡ true
    by true h k = refl
    by false h k = k h

at_end : (t : FunctionType) (us : List FunctionType) → has_type t (us ++ t ∷ []) ≡ true
at_end t [] = ap (λ (b : Bool). if b then true else false) (type_same t)
at_end t (u ∷ us) = by (same_type u t) (at_end t us)
  where
    by : (b : Bool) → has_type t (us ++ t ∷ []) ≡ true → (if b then true else has_type t (us ++ t ∷ [])) ≡ true
    by true h = refl
    by false h = h

has_added : (t : FunctionType) (us : List FunctionType) → has_type t (with_type us t) ≡ true
has_added t us = by (has_type t us) refl
  where
    by : (b : Bool) → has_type t us ≡ b → has_type t (if b then us else us ++ t ∷ []) ≡ true
    by true e = e
    by false e = at_end t us

kept : (t u : FunctionType) (us : List FunctionType) → has_type t us ≡ true → has_type t (with_type us u) ≡ true
kept t u us h = by (has_type u us)
  where
    by : (b : Bool) → has_type t (if b then us else us ++ u ∷ []) ≡ true
    by true = h
    by false = still t us (u ∷ []) h

kept_after : (t : FunctionType) (ts us : List FunctionType) → has_type t ts ≡ true → has_type t (types_after ts us) ≡ true
kept_after t ts [] h = h
kept_after t ts (u ∷ us) h = kept_after t (with_type ts u) us (kept t u ts h)

each : (ts us : List FunctionType) (u : FunctionType) (k : ℕ) → k < length us → slice_index_or us k u ≡ u → has_type u (types_after ts us) ≡ true
each ts [] u k l e = absurd (omega (arith, l))
each ts (v ∷ us) u zero l e = kept_after u (with_type ts v) us (subst (λ x. has_type u (with_type ts x) ≡ true) (sym e) (has_added u ts))
each ts (v ∷ us) u (suc k) l e = each (with_type ts v) us u k (omega (arith, l)) e

pub after_more : (ts us vs : List FunctionType) → types_after ts (us ++ vs) ≡ types_after (types_after ts us) vs
after_more ts [] vs = refl
after_more ts (u ∷ us) vs = after_more (with_type ts u) us vs

-- one field on
pub field_used : (fields : List declared.Field) (f d : declared.Field) (i : ℕ) (all before after : List FunctionType) → all ≡ types_after before (flat_map field_types (map field_of (drop i fields))) → i < length fields → f ≡ get_or fields i d → after ≡ types_after before (field_types (field_of f)) → all ≡ types_after after (flat_map field_types (map field_of (drop (i + 1) fields)))
field_used fields f d i all before after h l e k =
    let rest = flat_map field_types (map field_of (drop (i + 1) fields)) in
    h ∙ ap (λ xs. types_after before (flat_map field_types (map field_of xs))) (drop_more fields i d l) ∙ ap (λ x. types_after before (field_types (field_of x) ++ rest)) (sym e) ∙ after_more before (field_types (field_of f)) rest ∙ ap (λ x. types_after x rest) (sym k)

-- one expression on
pub expression_used : {G : Type 0} (all : List (Vec Instruction G)) (e d : Vec Instruction G) (i : ℕ) (types before after : List FunctionType) → types ≡ types_after before (flat_map expression_types (map expression_of (drop i all))) → i < length all → e ≡ get_or all i d → after ≡ types_after before (expression_types (expression_of e)) → types ≡ types_after after (flat_map expression_types (map expression_of (drop (i + 1) all)))
expression_used all e d i types before after h l k a =
    let rest = flat_map expression_types (map expression_of (drop (i + 1) all)) in
    h ∙ ap (λ xs. types_after before (flat_map expression_types (map expression_of xs))) (drop_more all i d l) ∙ ap (λ x. types_after before (expression_types (expression_of x) ++ rest)) (sym k) ∙ after_more before (expression_types (expression_of e)) rest ∙ ap (λ x. types_after x rest) (sym a)

-- functions by their indices bring no type
pub functions_bring_none : (xs : List ℕ) → flat_map expression_types (map ref_func xs) ≡ []
functions_bring_none [] = refl
functions_bring_none (x ∷ xs) = functions_bring_none xs

pub types_are_there : TypesAreThere
unfolding types_of
types_are_there fs t (k, l, e) = there t (types_of fs) (each (map definition_type (definitions_of fs)) (flat_map field_types fs) t k l e)
