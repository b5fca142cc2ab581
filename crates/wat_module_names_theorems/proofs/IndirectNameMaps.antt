-- Indirect name maps: their indices increase, and their associations are those of the functions with a name.
use Rattle.std.proofs.Common.{◌≡◌, ◌∙◌, ◌<◌, ◌≤◌, ◌⊎◌, inl, inr, ℕ, zero, suc, List, [], ◌∷◌, Some, length, map, sym, ap, arith}
use Rattle.std.proofs.lemmas.List.Elements.{Contains-append_cases, Contains-append_right}
use Rattle.std.specs.List.{Contains}
use Rattle.std.specs.List.Sorted.{IsStrictlyIncreasing}
use Rattle.std.specs.Prelude.{◌≢◌, slice_index}
use Rattle.wat_module_ast.specs.Names.{NameAssociation}
use Rattle.wat_module_encoder.specs.NameSection.{IndirectNameAssociation, indirect_association, indirect_associations}
use Rattle.wat_module_names_theorems.specs.IndirectNameMaps.{IndirectAssociationsAreNameMap, IsMapped, function_in}
use Rattle.wat_module_names_theorems.proofs.NameMaps.{first_one, increasing_more, only}

least : (n : ℕ) (ms : List (List NameAssociation)) → 0 < length (map function_in (indirect_associations n ms)) → n ≤ slice_index (map function_in (indirect_associations n ms)) 0
least n [] h = absurd (omega (arith, h))
least n ([] ∷ ms) h = let k = least (suc n) ms h in omega (arith, k)
least n ((x ∷ names) ∷ ms) h = omega arith

increasing : (n : ℕ) (ms : List (List NameAssociation)) → IsStrictlyIncreasing (map function_in (indirect_associations n ms))
increasing n [] k h = absurd (omega (arith, h))
increasing n ([] ∷ ms) k h = increasing (suc n) ms k h
increasing n ((x ∷ names) ∷ ms) k h = increasing_more n (map function_in (indirect_associations (suc n) ms)) (least (suc n) ms) (increasing (suc n) ms) k h

not_empty : (x : NameAssociation) (names : List NameAssociation) (a : IndirectNameAssociation) → x ∷ names ≡ a.names → a.names ≢ []
not_empty x names a e f = cc

mapped_here : (n : ℕ) (x : NameAssociation) (names : List NameAssociation) (ms : List (List NameAssociation)) (a : IndirectNameAssociation) → indirect_association n (x ∷ names) ≡ a → IsMapped n ((x ∷ names) ∷ ms) a
mapped_here n x names ms a e =
    let g : x ∷ names ≡ a.names = ap (λ (b : IndirectNameAssociation). b.names) e in
    (0, (let f : a.index ≡ n = sym (ap function_in e) in omega (arith, f)), ap Some g, not_empty x names a g)

mapped_later : (n : ℕ) (m : List NameAssociation) (ms : List (List NameAssociation)) (a : IndirectNameAssociation) → IsMapped (suc n) ms a → IsMapped n (m ∷ ms) a
mapped_later n m ms a (k, e, f, g) = (suc k, omega (arith, e), f, g)

mapped_either : (n : ℕ) (x : NameAssociation) (names : List NameAssociation) (ms : List (List NameAssociation)) (a : IndirectNameAssociation)
    → Contains (indirect_association n (x ∷ names) ∷ []) a ⊎ Contains (indirect_associations (suc n) ms) a → (Contains (indirect_associations (suc n) ms) a → IsMapped (suc n) ms a) → IsMapped n ((x ∷ names) ∷ ms) a
mapped_either n x names ms a (inl h) more = mapped_here n x names ms a (only (indirect_association n (x ∷ names)) a h)
mapped_either n x names ms a (inr h) more = mapped_later n (x ∷ names) ms a (more h)

mapped : (n : ℕ) (ms : List (List NameAssociation)) (a : IndirectNameAssociation) → Contains (indirect_associations n ms) a → IsMapped n ms a
mapped n [] a (k, h, e) = absurd (omega (arith, h))
mapped n ([] ∷ ms) a c = mapped_later n [] ms a (mapped (suc n) ms a c)
mapped n ((x ∷ names) ∷ ms) a c = mapped_either n x names ms a (Contains-append_cases (indirect_association n (x ∷ names) ∷ []) (indirect_associations (suc n) ms) a c) (mapped (suc n) ms a)

listed : (n : ℕ) (ms : List (List NameAssociation)) (a : IndirectNameAssociation) → IsMapped n ms a → Contains (indirect_associations n ms) a
listed n [] a (k, e, f, g) = cc
listed n ([] ∷ ms) a (zero, e, f, g) = let h : a.names ≡ [] = cc in absurd (g h)
listed n ([] ∷ ms) a (suc k, e, f, g) = listed (suc n) ms a (k, omega (arith, e), f, g)
listed n ((x ∷ names) ∷ ms) a (zero, e, f, g) =
    let i : n ≡ a.index = omega (arith, e) in
    let h : x ∷ names ≡ a.names = cc in first_one (indirect_association n (x ∷ names)) a (indirect_associations (suc n) ms) (ap (λ m. indirect_association m (x ∷ names)) i ∙ ap (indirect_association a.index) h)
listed n ((x ∷ names) ∷ ms) a (suc k, e, f, g) = Contains-append_right (indirect_association n (x ∷ names) ∷ []) (indirect_associations (suc n) ms) a (listed (suc n) ms a (k, omega (arith, e), f, g))

pub are_name_map : IndirectAssociationsAreNameMap
are_name_map n ms = record { increasing = increasing n ms; members = λ a. (mapped n ms a, listed n ms a) }
