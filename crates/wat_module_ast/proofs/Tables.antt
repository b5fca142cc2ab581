-- The rows of the table's parts, by their indices in the whole table.
use Rattle.std.proofs.Common.{◌≡◌, ◌∙◌, ◌-◌, ◌≤◌, ℕ, zero, suc, List, [], ◌∷◌, ◌++◌, Option, Some, None, length, ap, arith}
use Rattle.std.specs.List.{slice_get}

-- An index in the first of two lists.

pub in_first : {A : Type 0} (xs ys : List A) (i : ℕ) (x : A) → Some x ≡ slice_get xs i → Some x ≡ slice_get (xs ++ ys) i
in_first [] ys i x e = cc
in_first (y ∷ xs) ys zero x e = e
in_first (y ∷ xs) ys (suc i) x e = in_first xs ys i x e

-- An index after the first of two lists.

pub is_past : {A : Type 0} (xs : List A) (i : ℕ) → None ≡ slice_get xs i → length xs ≤ i
is_past [] i e = omega arith
is_past (x ∷ xs) zero e = cc
is_past (x ∷ xs) (suc i) e = let k = is_past xs i e in omega arith

pub in_second : {A : Type 0} (xs ys : List A) (i : ℕ) (o : Option A) → None ≡ slice_get xs i → o ≡ slice_get ys (i - length xs) → o ≡ slice_get (xs ++ ys) i
in_second [] ys i o e f = f ∙ ap (slice_get ys) (omega arith)
in_second (x ∷ xs) ys zero o e f = cc
in_second (x ∷ xs) ys (suc i) o e f = in_second xs ys i o e (f ∙ ap (slice_get ys) (omega arith))
