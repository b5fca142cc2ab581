-- The first elements of a list from an index on.
use Rattle.std.proofs.Common.{◌≡◌, ◌≤◌, ◌+◌, ℕ, zero, suc, List, [], ◌∷◌, sym, ap, ◌∙◌, arith, length, drop, Some, None}
use Rattle.std.specs.Prelude.{slice_get}

pub front : {A : Type 0} (xs : List A) (i : ℕ) (b : A) → slice_get xs i ≡ Some b → drop i xs ≡ b ∷ drop (i + 1) xs
front [] zero b e = cc
front [] (suc i) b e = cc
front (x ∷ xs) zero b e = let k : x ≡ b = cc in ap (λ y. y ∷ xs) k
front (x ∷ xs) (suc i) b e = let k : suc i + 1 ≡ suc (i + 1) = omega arith in front xs i b e ∙ ap (λ n. b ∷ drop n (x ∷ xs)) (sym k)

pub none_past : {A : Type 0} (xs : List A) (i : ℕ) → slice_get xs i ≡ None → length xs ≤ i
none_past [] i e = omega arith
none_past (x ∷ xs) zero e = cc
none_past (x ∷ xs) (suc i) e = omega (arith, none_past xs i e)
