-- Locals in runs of one type, and a binary search in the ends of the runs.
use Rattle.std.proofs.Common.{◌≡◌, ◌<◌, ◌≤◌, ◌+◌, ◌-◌, ◌^◌, ℕ, zero, suc, Bool, true, false, leb, List, [], ◌∷◌, ◌++◌, length, get_or, take, drop, replicate, Some, refl, sym, subst, ◌∙◌, ap, arith, length-append, inl, inr}
use Rattle.std.specs.Prelude.{slice_get}
use Rattle.std.specs.List.{flat_map}
use Rattle.std.specs.List.Sorted.{IsNonDecreasingBy, IsPartitionPoint}
use Rattle.std.specs.Option.{option_map}
use Rattle.std.proofs.lemmas.Bool.{cases_lt, leb-true, leb-false}
use Rattle.std.proofs.lemmas.List.{get_or-append-add, get_or_append_left}
use Rattle.std.proofs.lemmas.List.Sorted.{IsNonDecreasingBy-from_default}
use Rattle.wat_module_ast.specs.declared.fields.Locals.{Locals}
use Rattle.wat_module_ast.specs.declared.instruction.ValueType.{ValueType}
use Rattle.wat_module_ast.specs.Views.{local_types}
use Rattle.wat_valid.specs.LocalRuns.{RunEnds, local_count}

within : (n : ℕ) (t : ValueType) (ys : List ValueType) (i : ℕ) → i < n → slice_get (replicate n t ++ ys) i ≡ Some t
within zero t ys i l = absurd (omega arith)
within (suc n) t ys zero l = refl
within (suc n) t ys (suc i) l = within n t ys i (omega arith)

past : (n : ℕ) (t : ValueType) (ys : List ValueType) (i j : ℕ) → i ≡ n + j → slice_get (replicate n t ++ ys) i ≡ slice_get ys j
past zero t ys i j e = ap (slice_get ys) (omega arith)
past (suc n) t ys zero j e = absurd (omega arith)
past (suc n) t ys (suc i) j e = past n t ys i j (omega arith)

abbrev pub type_of_run : Locals → ValueType
type_of_run r = r.of

-- a local is in the run after those that end before it
in_run : (runs : List Locals) (k i : ℕ) → k ≤ length runs → local_count (take k runs) ≤ i → (k < length runs → i < local_count (take (suc k) runs)) → slice_get (flat_map local_types runs) i ≡ option_map type_of_run (slice_get runs k)
in_run [] zero i l a b = refl
in_run [] (suc k) i l a b = absurd (omega (arith, l))
in_run (r ∷ rs) zero i l a b = within r.count r.of (flat_map local_types rs) i (omega (arith, b (omega arith)))
in_run (r ∷ rs) (suc k) i l a b =
    past r.count r.of (flat_map local_types rs) i (i - r.count) (omega (arith, a)) ∙
    in_run rs k (i - r.count) (omega (arith, l)) (omega (arith, a)) (λ m. let n = b (omega (arith, m)) in omega (arith, n, a))

count_grows : (runs : List Locals) (j k : ℕ) → j ≤ k → local_count (take j runs) ≤ local_count (take k runs)
count_grows runs zero k l = omega arith
count_grows [] (suc j) k l = omega arith
count_grows (r ∷ rs) (suc j) zero l = absurd (omega (arith, l))
count_grows (r ∷ rs) (suc j) (suc k) l = let m = count_grows rs j k (omega (arith, l)) in omega (arith, m)

pub count_more : (runs : List Locals) (d : Locals) (j : ℕ) → j < length runs → local_count (take (suc j) runs) ≡ local_count (take j runs) + (get_or runs j d).count
count_more [] d j l = absurd (omega (arith, l))
count_more (r ∷ rs) d zero l = omega arith
count_more (r ∷ rs) d (suc j) l = let k = count_more rs d j (omega (arith, l)) in omega (arith, k)

-- the ends of the first runs
abbrev pub Ends : List Locals → List ℕ → Type 0
Ends runs ends = (k : ℕ) → k < length ends → get_or ends k 0 ≡ local_count (take (suc k) runs)

-- the end of one run more
pub end_more : (runs : List Locals) (ends : List ℕ) (end : ℕ) → Ends runs ends → end ≡ local_count (take (suc (length ends)) runs) → Ends runs (ends ++ end ∷ [])
end_more runs ends end h e k l =
    elim (cases_lt k (length ends)) [
      | inl m ↦ get_or_append_left ends (end ∷ []) 0 k m ∙ h k m
      | inr m ↦
          let size = length-append ends (end ∷ []) in
          let same : k ≡ length ends = omega (arith, l, m, size) in
          let last : length ends + 0 ≡ k = omega (arith, same) in
          ap (λ n. get_or (ends ++ end ∷ []) n 0) (sym last) ∙ get_or-append-add ends (end ∷ []) 0 0 ∙ e ∙ ap (λ n. local_count (take (suc n) runs)) (sym same)
    ]

-- the ends do not fall
pub ends_rise : (runs : List Locals) (ends : List ℕ) → RunEnds runs ends → IsNonDecreasingBy (λ e. e) ends
ends_rise runs ends h = IsNonDecreasingBy-from_default (λ e. e) ends 0 (λ i j l b.
    let first = h.each i (omega (arith, l, b)) in
    let more = count_grows runs (suc i) (suc j) (omega (arith, l)) in
    omega (arith, first, h.each j b, more))

-- the run with an index is the one after those that end at most there
pub at_point : (runs : List Locals) (ends : List ℕ) (i k : ℕ) → RunEnds runs ends → i < 2 ^ 64 → k ≤ length ends → IsPartitionPoint (λ e. leb e i ≡ true) (λ e. leb e i ≡ false) ends k → slice_get (flat_map local_types runs) i ≡ option_map type_of_run (slice_get runs k)
at_point runs ends i k h small bound p = in_run runs k i (omega (arith, bound, h.within)) (before k bound p.0) after
  where
    before : (k : ℕ) → k ≤ length ends → ((j d : ℕ) → 0 ≤ j → j < k → leb (get_or ends j d) i ≡ true) → local_count (take k runs) ≤ i
    before zero b q = omega arith
    before (suc m) b q = let last = leb-true (get_or ends m 0) i (q m 0 (omega arith) (omega arith)) in omega (arith, last, h.each m (omega (arith, b)))

    after : k < length runs → i < local_count (take (suc k) runs)
    after l =
        elim (cases_lt k (length ends)) [
          | inl m ↦ let next = leb-false (get_or ends k 0) i (p.1 k 0 (omega arith) m) in omega (arith, next, h.each k m)
          | inr m ↦
              let same : k ≡ length ends = omega (arith, bound, m) in
              let large = h.others (omega (arith, l, m)) in
              let there = ap (λ n. local_count (take (suc n) runs)) same in
              omega (arith, large, there, small)
        ]

-- one run more has an end
pub one_more : (runs : List Locals) (d : Locals) (ends new : List ℕ) (j n end : ℕ) → new ≡ ends ++ end ∷ [] → length ends ≡ j → j < length runs → n ≡ local_count (take j runs) → end ≡ n + (get_or runs j d).count → Ends runs ends → (length new ≡ j + 1) × (end ≡ local_count (take (j + 1) runs)) × Ends runs new
one_more runs d ends new j n end is size l counted e h =
    let more = count_more runs d j l in
    let here : end ≡ local_count (take (suc j) runs) = omega (arith, more, counted, e) in
    let long = ap length is ∙ length-append ends (end ∷ []) in
    let next : suc j ≡ j + 1 = omega arith in
    (omega (arith, long, size), here ∙ ap (λ k. local_count (take k runs)) next, subst (Ends runs) (sym is) (end_more runs ends end h (here ∙ ap (λ k. local_count (take (suc k) runs)) (sym size))))

-- one run more has its end past the largest index
pub too_far : (runs : List Locals) (d : Locals) (ends : List ℕ) (j n : ℕ) → length ends ≡ j → j < length runs → n ≡ local_count (take j runs) → (n + (get_or runs j d).count < 2 ^ 64 → ⊥) → Ends runs ends → RunEnds runs ends
too_far runs d ends j n size l counted large h = record {
  within = omega (arith, size, l);
  each = h;
  others = λ m.
      let more = count_more runs d j l in
      let same = ap (λ k. local_count (take (suc k) runs)) size in
      elim (cases_lt (n + (get_or runs j d).count) (2 ^ 64)) [
        | inl k ↦ absurd (large k)
        | inr k ↦ omega (arith, k, more, counted, same)
      ];
}
