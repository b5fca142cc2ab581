-- The first repetition of an identifier: that of its relation, and how a loop finds it.
use Rattle.std.proofs.Common.{◌≡◌, ◌∙◌, ◌+◌, ◌<◌, ℕ, suc, Bool, true, false, List, [], ◌∷◌, ◌++◌, Option, Some, None, length, map, take, drop, get_or, is_some, refl, sym, ap, subst, arith}
use Rattle.std.specs.Prelude.{slice_get}
use Rattle.std.proofs.Math.Seq.{take-append_seam}
use Rattle.std.proofs.lemmas.List.{append_assoc, append-nil, drop_more}
use Rattle.wat_module_ast.specs.Grammar.{position}
use Rattle.wat_module_ast.specs.Names.{Repeats, RepeatedIsFirst, are_distinct, earlier, has_name, pair_or, repeated, repeated_after}
use Rattle.wat_module_tokens.specs.Terminals.{Label, label}
use Rattle.wat_module_tokens.specs.declared.token.Name.{Name}
use Rattle.wat_module_tokens.specs.declared.token.Name.TheVariants.{Given, Absent}
use Rattle.wat_module_instructions.proofs.Distinct.{has_is_found, named_more, taken, unnamed_more}

get_seam : (before : List Label) (l : Label) (ls : List Label) → slice_get (before ++ l ∷ ls) (length before) ≡ Some l
get_seam [] l ls = refl
get_seam (m ∷ before) l ls = get_seam before l ls

abbrev first_of : Option (ℕ × ℕ) → ℕ
first_of (Some p) = p.0
first_of None = 0

abbrev second_of : Option (ℕ × ℕ) → ℕ
second_of (Some p) = p.1
second_of None = 0

first_is : (k i n j : ℕ) → ◌≡◌ {A = Option (ℕ × ℕ)} (Some (k, n)) (Some (i, j)) → k ≡ i
first_is k i n j e = ap first_of e

second_is : (k i n j : ℕ) → ◌≡◌ {A = Option (ℕ × ℕ)} (Some (k, n)) (Some (i, j)) → n ≡ j
second_is k i n j e = ap second_of e

-- a repetition at an item whose identifier is earlier
here : (before : List Label) (l : Label) (ls : List Label) → are_distinct before ≡ true → (k : ℕ) → earlier l before ≡ Some k → Repeats (before ++ l ∷ ls) k (length before)
here before None ls d k e = cc
here before (Some x) ls d k e = record {
  name = x;
  second = get_seam before (Some x) ls;
  first = ap (position 0 x) (take-append_seam before (Some x ∷ ls)) ∙ e;
  distinct = ap are_distinct (take-append_seam before (Some x ∷ ls)) ∙ d;
}

-- an item whose identifier is not earlier
distinct_on : (before : List Label) (l : Label) → are_distinct before ≡ true → earlier l before ≡ None → are_distinct (before ++ l ∷ []) ≡ true
distinct_on before None d e = unnamed_more before ∙ d
distinct_on before (Some x) d e = named_more x before (has_is_found 0 x before ∙ ap is_some e) d

found_by : (before : List Label) (l : Label) (ls : List Label) → are_distinct before ≡ true → (i j : ℕ)
    → (are_distinct (before ++ l ∷ []) ≡ true → repeated_after (before ++ l ∷ []) ls ≡ Some (i, j) → Repeats ((before ++ l ∷ []) ++ ls) i j)
    → (o : Option ℕ) → earlier l before ≡ o → pair_or o (length before) (repeated_after (before ++ l ∷ []) ls) ≡ Some (i, j) → Repeats (before ++ l ∷ ls) i j
found_by before l ls d i j more (Some k) f g = subst (λ n. Repeats (before ++ l ∷ ls) n j) (first_is k i (length before) j g) (subst (λ n. Repeats (before ++ l ∷ ls) k n) (second_is k i (length before) j g) (here before l ls d k f))
found_by before l ls d i j more None f g = subst (λ ms. Repeats ms i j) (append_assoc before (l ∷ []) ls) (more (distinct_on before l d f) g)

found_after : (before ls : List Label) → are_distinct before ≡ true → (i j : ℕ) → repeated_after before ls ≡ Some (i, j) → Repeats (before ++ ls) i j
found_after before [] d i j e = cc
found_after before (l ∷ ls) d i j e = found_by before l ls d i j (λ f g. found_after (before ++ l ∷ []) ls f i j g) (earlier l before) refl e

none_by : (before : List Label) (l : Label) (ls : List Label) → are_distinct before ≡ true
    → (are_distinct (before ++ l ∷ []) ≡ true → repeated_after (before ++ l ∷ []) ls ≡ None → are_distinct ((before ++ l ∷ []) ++ ls) ≡ true)
    → (o : Option ℕ) → earlier l before ≡ o → pair_or o (length before) (repeated_after (before ++ l ∷ []) ls) ≡ None → are_distinct (before ++ l ∷ ls) ≡ true
none_by before l ls d more (Some k) f g = cc
none_by before l ls d more None f g = subst (λ ms. are_distinct ms ≡ true) (append_assoc before (l ∷ []) ls) (more (distinct_on before l d f) g)

none_after : (before ls : List Label) → are_distinct before ≡ true → repeated_after before ls ≡ None → are_distinct (before ++ ls) ≡ true
none_after before [] d e = ap are_distinct (append-nil before) ∙ d
none_after before (l ∷ ls) d e = none_by before l ls d (λ f g. none_after (before ++ l ∷ []) ls f g) (earlier l before) refl e

pub law : (labels : List Label) → RepeatedIsFirst labels
unfolding repeated
law labels = record { found = found_after [] labels refl; none = none_after [] labels refl }

-- The loop.

pub starts_off : (labels : List Label) → repeated labels ≡ repeated_after [] labels
unfolding repeated
starts_off labels = refl

at_item : (names : List Name) (i : ℕ) (d n : Name) → i < length names → get_or names i d ≡ n
    → repeated_after (map label (take i names)) (map label (drop i names)) ≡ pair_or (earlier (label n) (map label (take i names))) (length (map label (take i names))) (repeated_after (map label (take i names) ++ label n ∷ []) (map label (drop (i + 1) names)))
at_item names i d n h e = ap (λ ns. repeated_after (map label (take i names)) (map label ns)) (drop_more names i d h) ∙ ap (λ m. repeated_after (map label (take i names)) (label m ∷ map label (drop (i + 1) names))) e

-- the identifier of an item is not earlier
pub goes_on : (names : List Name) (i : ℕ) (d n : Name) (all : Option (ℕ × ℕ)) → i < length names → get_or names i d ≡ n → all ≡ repeated_after (map label (take i names)) (map label (drop i names)) → earlier (label n) (map label (take i names)) ≡ None
    → all ≡ repeated_after (map label (take (i + 1) names)) (map label (drop (i + 1) names))
goes_on names i d n all h e was none =
    was ∙ at_item names i d n h e ∙ ap (λ o. pair_or o (length (map label (take i names))) (repeated_after (map label (take i names) ++ label n ∷ []) (map label (drop (i + 1) names)))) none
    ∙ ap (λ ls. repeated_after ls (map label (drop (i + 1) names))) (sym (taken names i d n h e))

-- the identifier of an item is earlier
pub stops : (names : List Name) (i : ℕ) (d n : Name) (all : Option (ℕ × ℕ)) (k : ℕ) → i < length names → get_or names i d ≡ n → all ≡ repeated_after (map label (take i names)) (map label (drop i names)) → earlier (label n) (map label (take i names)) ≡ Some k
    → length (map label (take i names)) ≡ i → all ≡ Some (k, i)
stops names i d n all k h e was some long =
    was ∙ at_item names i d n h e ∙ ap (λ o. pair_or o (length (map label (take i names))) (repeated_after (map label (take i names) ++ label n ∷ []) (map label (drop (i + 1) names)))) some
    ∙ ap (λ m. Some (k, m)) long
