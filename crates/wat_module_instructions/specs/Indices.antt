-- The identifiers of the items of an index space by runs of items, and a map from identifiers to the indices of their
-- items. Not part of the standard.
use denote.Ref.{Bor}
use Rattle.std.specs.Prelude.{◌≡◌, ◌<◌, ℕ, List, [], ◌∷◌, Some, None, length, replicate}
use Rattle.std.specs.List.{flat_map}
use Rattle.std.specs.BTreeMap.{BTreeMap, get_by}
use Rattle.std.specs.Cmp.Lexicographic.{slice_cmp}
use Rattle.std.specs.Ordering.{nat_cmp}
use Rattle.wat_module_ast.specs.Grammar.{position}
use Rattle.wat_module_instructions.specs.declared.names.NameRun.{NameRun}
use Rattle.wat_module_instructions.specs.declared.names.NameRun.TheVariants.{Given, Absent}
use Rattle.wat_module_tokens.specs.Terminals.{Label}

-- The identifiers of the items of a run, one for each item.
abbrev pub run_labels : NameRun → List Label
run_labels (Given x) = Some x.now ∷ []
run_labels (Absent n) = replicate n None

-- The identifiers of the items of runs, one for each item.
abbrev pub labels_of : List NameRun → List Label
labels_of runs = flat_map run_labels runs

-- `AreIndices m names`: the map `m` returns the first index of each identifier in `names`, and nothing for any other.
abbrev pub AreIndices : BTreeMap (Bor (List ℕ)) ℕ → List Label → Type 0
AreIndices m names = (x : List ℕ) → get_by (λ k. slice_cmp nat_cmp x k.now) m ≡ position 0 x names

-- `IndicesOf m runs`: `AreIndices m` holds of the identifiers of the items if there are more than 16 runs.
-- With 16 or fewer the code does not use the map.
abbrev pub IndicesOf : BTreeMap (Bor (List ℕ)) ℕ → List NameRun → Type 0
IndicesOf m runs = 16 < length runs → AreIndices m (labels_of runs)
