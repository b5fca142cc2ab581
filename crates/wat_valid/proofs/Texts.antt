-- Texts of lists of words.
use Rattle.std.proofs.Common.{◌≡◌, List, [], ◌∷◌, ◌++◌, ℕ, map, refl, ap}
use Rattle.std.specs.List.{join_by, flat_map}

pieces : {X : Type 0} (f : X → List ℕ) (between : List ℕ) (xs : List X) → flat_map (λ y. between ++ f y) xs ≡ flat_map (λ y. between ++ y) (map f xs)
pieces f between [] = refl
pieces f between (x ∷ xs) = ap (λ r. between ++ f x ++ r) (pieces f between xs)

pub join_mapped : {X : Type 0} (f : X → List ℕ) (between : List ℕ) (xs : List X) → join_by f between xs ≡ join_by (λ y. y) between (map f xs)
join_mapped f between [] = refl
join_mapped f between (x ∷ xs) = ap (λ r. f x ++ r) (pieces f between xs)
