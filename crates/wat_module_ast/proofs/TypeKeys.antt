-- What a map from types has after a type more.
use denote.Ref.{Bor}
use Rattle.std.proofs.Common.{◌≡◌, ◌∙◌, ◌≤◌, ℕ, suc, Bool, true, false, List, [], ◌∷◌, ◌++◌, length, map, Option, Some, None, is_some, refl, sym, ap, subst, bytes_eq, arith}
use Rattle.std.specs.Prelude.{Vec, ◌==◌, ◌&&◌, if◌then◌else◌}
use Rattle.std.specs.Option.{option_copied, unwrap_or}
use Rattle.std.specs.BTreeMap.{BTreeMap, UpdatesBy, get_by, is_at}
use Rattle.std.specs.Map.{AreApart, IsKeyTest, KeepsOthers, lookup}
use Rattle.std.specs.Cmp.Lexicographic.{slice_cmp}
use Rattle.std.specs.Ordering.{eq_by_cmp, nat_cmp}
use Rattle.std.proofs.lemmas.Cmp.{eq_by_cmp_equiv, nat_list_cmp_total, nat_list_eq_equiv}
use Rattle.std.proofs.lemmas.List.{length-map, map-append}
use Rattle.std.proofs.lemmas.Map.Text.{is_eq-slice_cmp}
use Rattle.std.proofs.lemmas.Slice.Eq.{bytes_eq-Decides}
use Rattle.wat_module_ast.specs.declared.instruction.ReferenceType.TheVariants as reference
use Rattle.wat_module_ast.specs.declared.instruction.ValueType.{ValueType}
use Rattle.wat_module_ast.specs.declared.instruction.ValueType.TheVariants as value
use Rattle.wat_module_ast.specs.declared.types.FunctionType as declared
use Rattle.wat_module_ast.specs.TypeViews.{type_of}
use Rattle.wat_module_ast.specs.Types.{FunctionType, same_type, same_values, type_byte}
use Rattle.wat_module_ast.specs.ImplicitTypes.{has_type, type_index}
use Rattle.wat_module_ast.specs.Indices.{AreIndices, found_type, type_key}
use Rattle.wat_module_ast.proofs.FunctionTypes.{type_is}

-- no type has the byte between
between : (t : ValueType) → (type_byte t == 0x40) ≡ false
between value.I32 = refl
between value.I64 = refl
between value.F32 = refl
between value.F64 = refl
between value.V128 = refl
between (value.Reference reference.Func) = refl
between (value.Reference reference.Extern) = refl

between_too : (t : ValueType) → (0x40 == type_byte t) ≡ false
between_too value.I32 = refl
between_too value.I64 = refl
between_too value.F32 = refl
between_too value.F64 = refl
between_too value.V128 = refl
between_too (value.Reference reference.Func) = refl
between_too (value.Reference reference.Extern) = refl

same_bytes : (ts us : List ValueType) → bytes_eq (map type_byte ts) (map type_byte us) ≡ same_values ts us
same_bytes [] [] = refl
same_bytes [] (u ∷ us) = refl
same_bytes (t ∷ ts) [] = refl
same_bytes (t ∷ ts) (u ∷ us) = ap (λ b. (type_byte t == type_byte u) && b) (same_bytes ts us)

and_assoc : (a b c : Bool) → a && (b && c) ≡ (a && b) && c
and_assoc true b c = refl
and_assoc false b c = refl

same_lists : (ps qs rs ss : List ValueType) → bytes_eq (map type_byte ps ++ 0x40 ∷ map type_byte rs) (map type_byte qs ++ 0x40 ∷ map type_byte ss) ≡ same_values ps qs && same_values rs ss
same_lists [] [] rs ss = same_bytes rs ss
same_lists [] (q ∷ qs) rs ss = ap (λ b. b && bytes_eq (map type_byte rs) (map type_byte qs ++ 0x40 ∷ map type_byte ss)) (between_too q)
same_lists (p ∷ ps) [] rs ss = ap (λ b. b && bytes_eq (map type_byte ps ++ 0x40 ∷ map type_byte rs) (map type_byte ss)) (between p)
same_lists (p ∷ ps) (q ∷ qs) rs ss = ap (λ b. (type_byte p == type_byte q) && b) (same_lists ps qs rs ss) ∙ and_assoc (type_byte p == type_byte q) (same_values ps qs) (same_values rs ss)

-- types are the same where their keys are
pub same_keys : (t u : FunctionType) → bytes_eq (type_key t) (type_key u) ≡ same_type t u
same_keys t u = same_lists t.params u.params t.results u.results

-- what is found among types and one more

abbrev found_or : Option ℕ → Option ℕ → Option ℕ
found_or (Some n) o = Some n
found_or None o = o

abbrev one_later : Option ℕ → Option ℕ
one_later (Some n) = Some (suc n)
one_later None = None

found_here : (b h : Bool) (i : ℕ) → (if (if b then true else h) then Some (if b then 0 else suc i) else None) ≡ (if b then Some 0 else one_later (if h then Some i else None))
found_here true h i = refl
found_here false true i = refl
found_here false false i = refl

found_first : (t u : FunctionType) (us : List FunctionType) → found_type t (u ∷ us) ≡ (if same_type u t then Some 0 else one_later (found_type t us))
found_first t u us = found_here (same_type u t) (has_type t us) (type_index t us)

more_later : (b c : Bool) (n : ℕ) (o : Option ℕ) → (if b then Some 0 else one_later (found_or o (if c then Some n else None))) ≡ found_or (if b then Some 0 else one_later o) (if c then Some (suc n) else None)
more_later true c n o = refl
more_later false true n (Some m) = refl
more_later false true n None = refl
more_later false false n (Some m) = refl
more_later false false n None = refl

found_more : (t u : FunctionType) (ts : List FunctionType) → found_type t (ts ++ u ∷ []) ≡ found_or (found_type t ts) (if same_type u t then Some (length ts) else None)
found_more t u [] = found_first t u []
found_more t u (v ∷ ts) =
    found_first t v (ts ++ u ∷ []) ∙ ap (λ o. if same_type v t then Some 0 else one_later o) (found_more t u ts) ∙ more_later (same_type v t) (same_type u t) (length ts) (found_type t ts)
    ∙ ap (λ o. found_or o (if same_type u t then Some (suc (length ts)) else None)) (sym (found_first t v ts))

-- a type that is there already
pub found_again : (t u : FunctionType) (ts : List FunctionType) → has_type u ts ≡ true → found_type t (ts ++ u ∷ []) ≡ found_type t ts
found_again t u ts h = found_more t u ts ∙ by (same_type u t) refl
  where
    there : (b : Bool) → b ≡ true → found_or (if b then Some (type_index t ts) else None) (Some (length ts)) ≡ (if b then Some (type_index t ts) else None)
    there true e = refl
    there false e = cc

    nothing : (o : Option ℕ) → found_or o None ≡ o
    nothing (Some n) = refl
    nothing None = refl

    by : (b : Bool) → same_type u t ≡ b → found_or (found_type t ts) (if b then Some (length ts) else None) ≡ found_type t ts
    by true e = there (has_type t ts) (ap (λ x. has_type x ts) (sym (type_is u t e)) ∙ h)
    by false e = nothing (found_type t ts)

-- one that is not
pub found_new : (t u : FunctionType) (ts : List FunctionType) → has_type u ts ≡ false → found_type t (ts ++ u ∷ []) ≡ (if same_type u t then Some (length ts) else found_type t ts)
found_new t u ts h = found_more t u ts ∙ by (same_type u t) refl
  where
    absent : (b : Bool) → b ≡ false → found_or (if b then Some (type_index t ts) else None) (Some (length ts)) ≡ Some (length ts)
    absent true e = cc
    absent false e = refl

    nothing : (o : Option ℕ) → found_or o None ≡ o
    nothing (Some n) = refl
    nothing None = refl

    by : (b : Bool) → same_type u t ≡ b → found_or (found_type t ts) (if b then Some (length ts) else None) ≡ (if b then Some (length ts) else found_type t ts)
    by true e = absent (has_type t ts) (ap (λ x. has_type x ts) (sym (type_is u t e)) ∙ h)
    by false e = nothing (found_type t ts)

-- whether a type is found

some_found : (b : Bool) (n : ℕ) → is_some (if b then Some n else None) ≡ b
some_found true n = refl
some_found false n = refl

some_copied : (o : Option (Bor ℕ)) → is_some o ≡ is_some (option_copied o)
some_copied (Some x) = refl
some_copied None = refl

pub found_by : {G : Type 0} (m : BTreeMap (Vec ℕ G) ℕ) (ts : List FunctionType) (t : FunctionType) (xs : List ℕ) → AreIndices m ts → xs ≡ type_key t → get_by (λ k. slice_cmp nat_cmp xs k.items) m ≡ found_type t ts
found_by m ts t xs a e = ap (λ x. get_by (λ k. slice_cmp nat_cmp x k.items) m) e ∙ a t

pub has_by : {G : Type 0} (o : Option (Bor ℕ)) (m : BTreeMap (Vec ℕ G) ℕ) (ts : List FunctionType) (t : FunctionType) (xs : List ℕ) → AreIndices m ts → xs ≡ type_key t → option_copied o ≡ get_by (λ k. slice_cmp nat_cmp xs k.items) m → is_some o ≡ has_type t ts
has_by o m ts t xs a e g = some_copied o ∙ ap is_some (g ∙ found_by m ts t xs a e) ∙ some_found (has_type t ts) (type_index t ts)

-- and where

absent_index : (t : FunctionType) (ts : List FunctionType) → has_type t ts ≡ false → type_index t ts ≡ length ts
absent_index t [] h = refl
absent_index t (u ∷ us) h = by (same_type u t) h (λ k. absent_index t us k)
  where
    by : (b : Bool) → (if b then true else has_type t us) ≡ false → (has_type t us ≡ false → type_index t us ≡ length us) → (if b then 0 else suc (type_index t us)) ≡ suc (length us)
    by true h k = cc
    by false h k = ap suc (k h)

index_found : (t : FunctionType) (ts : List FunctionType) → unwrap_or (found_type t ts) (length ts) ≡ type_index t ts
index_found t ts = by (has_type t ts) refl
  where
    by : (b : Bool) → has_type t ts ≡ b → unwrap_or (if b then Some (type_index t ts) else None) (length ts) ≡ type_index t ts
    by true e = refl
    by false e = sym (absent_index t ts e)

pub index_by : (o : Option ℕ) (types : List declared.FunctionType) (ts : List FunctionType) (t : FunctionType) (n : ℕ) → map type_of types ≡ ts → o ≡ found_type t ts → n ≡ length types → unwrap_or o n ≡ type_index t ts
index_by o types ts t n e g l = ap (λ x. unwrap_or x n) g ∙ ap (unwrap_or (found_type t ts)) (l ∙ sym (length-map types type_of) ∙ ap length e) ∙ index_found t ts

index_within : (t : FunctionType) (ts : List FunctionType) → type_index t ts ≤ length ts
index_within t [] = omega arith
index_within t (u ∷ us) = by (same_type u t) (index_within t us)
  where
    by : (b : Bool) → type_index t us ≤ length us → (if b then 0 else suc (type_index t us)) ≤ suc (length us)
    by true h = omega arith
    by false h = omega (arith, h)

pub index_below : (t : FunctionType) (types : List declared.FunctionType) (ts : List FunctionType) → map type_of types ≡ ts → type_index t ts ≤ length types
index_below t types ts e = subst (λ n. type_index t ts ≤ n) (ap length (sym e) ∙ length-map types type_of) (index_within t ts)

-- a type's index in a map

apart : (bs cs ks : List ℕ) → bytes_eq bs cs ≡ false → bytes_eq bs ks ≡ true → bytes_eq cs ks ≡ false
apart bs cs ks n y = nat_list_eq_equiv.symm cs ks ∙ sym (nat_list_eq_equiv.congr bs ks cs y) ∙ n

others_kept : {K X : Type 0} (eq : K → K → Bool) (test : K → Bool) (old new : List (K × X)) → KeepsOthers eq test old new → (other : K → Bool) → IsKeyTest eq other → AreApart test other → lookup other new ≡ lookup other old
unfolding KeepsOthers
others_kept eq test old new h = h

updated : {G : Type 0} (bs cs : List ℕ) (m n : BTreeMap (Vec ℕ G) ℕ) (w : Option ℕ) → UpdatesBy (λ (x y : Vec ℕ G). slice_cmp nat_cmp x.items y.items) (λ k. slice_cmp nat_cmp bs k.items) m n w
    → get_by (λ k. slice_cmp nat_cmp cs k.items) n ≡ (if bytes_eq bs cs then w else get_by (λ k. slice_cmp nat_cmp cs k.items) m)
updated {G} bs cs m n w h = by (bytes_eq bs cs) refl
  where
    by : (b : Bool) → bytes_eq bs cs ≡ b → get_by (λ (k : Vec ℕ G). slice_cmp nat_cmp cs k.items) n ≡ (if b then w else get_by (λ (k : Vec ℕ G). slice_cmp nat_cmp cs k.items) m)
    by true e = subst (λ xs. get_by (λ (k : Vec ℕ G). slice_cmp nat_cmp xs k.items) n ≡ w) ((bytes_eq-Decides bs cs).0 e) h.1
    by false e =
        others_kept (eq_by_cmp (λ (x y : Vec ℕ G). slice_cmp nat_cmp x.items y.items)) (is_at (λ (k : Vec ℕ G). slice_cmp nat_cmp bs k.items)) m.entries n.entries h.3 (is_at (λ (k : Vec ℕ G). slice_cmp nat_cmp cs k.items))
        (λ x y. (eq_by_cmp_equiv nat_list_cmp_total).congr cs x.items y.items)
        (λ k y. is_eq-slice_cmp cs k.items ∙ apart bs cs k.items e (sym (is_eq-slice_cmp bs k.items) ∙ y))

pub pushed : (all types : List declared.FunctionType) (of : declared.FunctionType) → all ≡ types ++ of ∷ [] → map type_of all ≡ map type_of types ++ type_of of ∷ []
pushed all types of e = ap (map type_of) e ∙ map-append type_of types (of ∷ [])

-- a map has the indices after a type that it had
pub had_index : {G : Type 0} (m : BTreeMap (Vec ℕ G) ℕ) (ts : List FunctionType) (u : FunctionType) → AreIndices m ts → has_type u ts ≡ true → AreIndices m (ts ++ u ∷ [])
had_index m ts u a h t = a t ∙ sym (found_again t u ts h)

-- and after a new one, once it has its index
pub gained_index : {G : Type 0} (m n : BTreeMap (Vec ℕ G) ℕ) (types : List declared.FunctionType) (u : FunctionType) (bs : List ℕ) (i : ℕ) → AreIndices m (map type_of types) → has_type u (map type_of types) ≡ false → bs ≡ type_key u → i ≡ length types
    → UpdatesBy (λ (x y : Vec ℕ G). slice_cmp nat_cmp x.items y.items) (λ k. slice_cmp nat_cmp bs k.items) m n (Some i) → AreIndices n (map type_of types ++ u ∷ [])
gained_index {G} m n types u bs i a h e l w t =
    let ts = map type_of types in
    updated bs (type_key t) m n (Some i) w ∙ ap (λ b. if b then Some i else get_by (λ (k : Vec ℕ G). slice_cmp nat_cmp (type_key t) k.items) m) (ap (λ x. bytes_eq x (type_key t)) e ∙ same_keys u t)
    ∙ ap (λ o. if same_type u t then Some i else o) (a t) ∙ ap (λ k. if same_type u t then Some k else found_type t ts) (l ∙ sym (length-map types type_of)) ∙ sym (found_new t u ts h)
