-- Name maps: their indices increase, and their associations are those of the items with an identifier.
use Rattle.std.proofs.Common.{◌≡◌, ◌∙◌, ◌+◌, ◌<◌, ◌≤◌, ◌⊎◌, inl, inr, ℕ, zero, suc, List, [], ◌∷◌, Some, None, length, map, sym, ap, subst, arith}
use Rattle.std.proofs.lemmas.List.Elements.{Contains-append_cases, Contains-append_right}
use Rattle.std.specs.List.{Contains}
use Rattle.std.specs.List.Sorted.{IsStrictlyIncreasing}
use Rattle.std.specs.Prelude.{slice_index}
use Rattle.wat_module_ast.specs.Names.{NameAssociation, association, associations}
use Rattle.wat_module_names_theorems.specs.NameMaps.{AssociationsAreNameMap, IsNamed, index_in}
use Rattle.wat_module_tokens.specs.Terminals.{Label}

-- an index before larger ones
pub increasing_more : (n : ℕ) (is : List ℕ) → (0 < length is → n < slice_index is 0) → IsStrictlyIncreasing is → IsStrictlyIncreasing (n ∷ is)
increasing_more n is below more zero h = below (omega (arith, h))
increasing_more n is below more (suc k) h =
    let e : suc (k + 1) ≡ suc k + 1 = omega arith in subst (λ j. slice_index is k < slice_index (n ∷ is) j) e (more k (omega (arith, h)))

least : (n : ℕ) (ls : List Label) → 0 < length (map index_in (associations n ls)) → n ≤ slice_index (map index_in (associations n ls)) 0
least n [] h = absurd (omega (arith, h))
least n (None ∷ ls) h = let k = least (suc n) ls h in omega (arith, k)
least n (Some x ∷ ls) h = omega arith

increasing : (n : ℕ) (ls : List Label) → IsStrictlyIncreasing (map index_in (associations n ls))
increasing n [] k h = absurd (omega (arith, h))
increasing n (None ∷ ls) k h = increasing (suc n) ls k h
increasing n (Some x ∷ ls) k h = increasing_more n (map index_in (associations (suc n) ls)) (least (suc n) ls) (increasing (suc n) ls) k h

-- an element of a list with one element is this element
pub only : {X : Type 0} (x y : X) → Contains (x ∷ []) y → x ≡ y
only x y (zero, h, e) = e
only x y (suc k, h, e) = absurd (omega (arith, h))

pub first_one : {X : Type 0} (x y : X) (xs : List X) → x ≡ y → Contains (x ∷ xs) y
first_one x y xs e = (0, omega arith, e)

named_here : (n : ℕ) (x : List ℕ) (ls : List Label) (a : NameAssociation) → association n x ≡ a → IsNamed n (Some x ∷ ls) a
named_here n x ls a e = (0, (let f : a.index ≡ n = sym (ap index_in e) in omega (arith, f)), ap (λ (b : NameAssociation). Some (Some b.name)) e)

named_later : (n : ℕ) (l : Label) (ls : List Label) (a : NameAssociation) → IsNamed (suc n) ls a → IsNamed n (l ∷ ls) a
named_later n l ls a (k, e, f) = (suc k, omega (arith, e), f)

named_either : (n : ℕ) (x : List ℕ) (ls : List Label) (a : NameAssociation) → Contains (association n x ∷ []) a ⊎ Contains (associations (suc n) ls) a → (Contains (associations (suc n) ls) a → IsNamed (suc n) ls a) → IsNamed n (Some x ∷ ls) a
named_either n x ls a (inl h) more = named_here n x ls a (only (association n x) a h)
named_either n x ls a (inr h) more = named_later n (Some x) ls a (more h)

named : (n : ℕ) (ls : List Label) (a : NameAssociation) → Contains (associations n ls) a → IsNamed n ls a
named n [] a (k, h, e) = absurd (omega (arith, h))
named n (None ∷ ls) a c = named_later n None ls a (named (suc n) ls a c)
named n (Some x ∷ ls) a c = named_either n x ls a (Contains-append_cases (association n x ∷ []) (associations (suc n) ls) a c) (named (suc n) ls a)

listed : (n : ℕ) (ls : List Label) (a : NameAssociation) → IsNamed n ls a → Contains (associations n ls) a
listed n [] a (k, e, f) = cc
listed n (None ∷ ls) a (zero, e, f) = cc
listed n (None ∷ ls) a (suc k, e, f) = listed (suc n) ls a (k, omega (arith, e), f)
listed n (Some x ∷ ls) a (zero, e, f) =
    let i : n ≡ a.index = omega (arith, e) in let g : x ≡ a.name = cc in first_one (association n x) a (associations (suc n) ls) (ap (λ m. association m x) i ∙ ap (association a.index) g)
listed n (Some x ∷ ls) a (suc k, e, f) = Contains-append_right (association n x ∷ []) (associations (suc n) ls) a (listed (suc n) ls a (k, omega (arith, e), f))

pub are_name_map : AssociationsAreNameMap
are_name_map n ls = record { increasing = increasing n ls; members = λ a. (named n ls a, listed n ls a) }
