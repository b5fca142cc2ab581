-- Elements that are functions by their indices.
use Rattle.std.proofs.Common.{◌≡◌, ℕ, List, [], ◌∷◌, map, Some, refl, ap}
use Rattle.wat_module_encoder.specs.Binary.{before_some, functions_in}
use Rattle.wat_module_ast.specs.Fields.{ref_func}

pub functions_of_indices : (xs : List ℕ) → functions_in (map ref_func xs) ≡ Some xs
functions_of_indices [] = refl
functions_of_indices (x ∷ xs) = ap (λ y. before_some (Some x) y) (functions_of_indices xs)
