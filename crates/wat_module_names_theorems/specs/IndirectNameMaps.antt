-- WebAssembly 2.0, 7.4.1 (appendix, custom sections: name section), and the extended-name-section proposal: an indirect name
-- map assigns a name map to each function, that of its locals or its labels. Each index occurs at most once, and indices
-- increase.
use Rattle.std.specs.Prelude.{◌≡◌, ◌≢◌, ◌↔◌, ◌+◌, ℕ, List, [], map, Some, slice_get}
use Rattle.std.specs.List.{Contains}
use Rattle.std.specs.List.Sorted.{IsStrictlyIncreasing}
use Rattle.wat_module_ast.specs.Names.{NameAssociation}
use Rattle.wat_module_encoder.specs.NameSection.{IndirectNameAssociation, indirect_associations}

abbrev pub function_in : IndirectNameAssociation → ℕ
function_in a = a.index

-- The function that has the index of the association `a`, among functions whose indices begin at `n`, has the name map of
-- `a`, which is not empty.
abbrev pub IsMapped : ℕ → List (List NameAssociation) → IndirectNameAssociation → Type 0
IsMapped n maps a = (k : ℕ) × (a.index ≡ n + k) × (slice_get maps k ≡ Some a.names) × (a.names ≢ [])

-- 7.4.1, `indirectnamemap`. `IsIndirectNameMap n maps associations`: the list is the indirect name map of functions with the
-- name maps `maps` and indices from `n` on. It has an association if and only if the function with this index has this name
-- map and the name map is not empty.
pub record IsIndirectNameMap (n : ℕ) (maps : List (List NameAssociation)) (associations : List IndirectNameAssociation) : Type 0 where
  pub increasing : IsStrictlyIncreasing (map function_in associations)
  pub members : (a : IndirectNameAssociation) → Contains associations a ↔ IsMapped n maps a

-- Theorem: `indirect_associations` is the indirect name map of functions with these name maps.
abbrev pub IndirectAssociationsAreNameMap : Type 0
IndirectAssociationsAreNameMap = (n : ℕ) (maps : List (List NameAssociation)) → IsIndirectNameMap n maps (indirect_associations n maps)
