-- WebAssembly 2.0, 7.4.1 (appendix, custom sections: name section): a name map assigns names to indices. Each index occurs at
-- most once, and indices increase.
use Rattle.std.specs.Prelude.{◌≡◌, ◌↔◌, ◌+◌, ℕ, List, map, Some, slice_get}
use Rattle.std.specs.List.{Contains}
use Rattle.std.specs.List.Sorted.{IsStrictlyIncreasing}
use Rattle.wat_module_ast.specs.Names.{NameAssociation, associations}
use Rattle.wat_module_tokens.specs.Terminals.{Label}

abbrev pub index_in : NameAssociation → ℕ
index_in a = a.index

-- The item that has the index of the association `a`, among items whose indices begin at `n`, has the name of `a` as its
-- identifier.
abbrev pub IsNamed : ℕ → List Label → NameAssociation → Type 0
IsNamed n labels a = (k : ℕ) × (a.index ≡ n + k) × (slice_get labels k ≡ Some (Some a.name))

-- 7.4.1, `namemap`. `IsNameMap n labels names`: the associations `names` are the name map of items with the identifiers
-- `labels` and indices from `n` on. It has an association if and only if the item with this index has this identifier.
pub record IsNameMap (n : ℕ) (labels : List Label) (names : List NameAssociation) : Type 0 where
  pub increasing : IsStrictlyIncreasing (map index_in names)
  pub members : (a : NameAssociation) → Contains names a ↔ IsNamed n labels a

-- Theorem: `associations` is the name map of items with these identifiers.
abbrev pub AssociationsAreNameMap : Type 0
AssociationsAreNameMap = (n : ℕ) (labels : List Label) → IsNameMap n labels (associations n labels)
