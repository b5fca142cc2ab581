-- A map from function types, by their bytes, to their indices. Not part of the standard.
use Rattle.std.specs.Prelude.{◌≡◌, ℕ, List, ◌∷◌, ◌++◌, map, Option, Some, None, Vec, if◌then◌else◌}
use Rattle.std.specs.BTreeMap.{BTreeMap, get_by}
use Rattle.std.specs.Cmp.Lexicographic.{slice_cmp}
use Rattle.std.specs.Ordering.{nat_cmp}
use Rattle.wat_module_ast.specs.Types.{FunctionType, type_byte}
use Rattle.wat_module_ast.specs.ImplicitTypes.{has_type, type_index}

-- The key of a function type: the bytes of its parameters, 0x40, and the bytes of
-- its results. No value type has the byte 0x40.
abbrev pub type_key : FunctionType → List ℕ
type_key t = map type_byte t.params ++ 0x40 ∷ map type_byte t.results

-- The least index of a type in a list, or `None` if it is not in it.
abbrev pub found_type : FunctionType → List FunctionType → Option ℕ
found_type t ts = if has_type t ts then Some (type_index t ts) else None

-- `AreIndices m ts`: the map `m` returns the least index of each type in `ts`, and nothing for any other.
abbrev pub AreIndices : {G : Type 0} → BTreeMap (Vec ℕ G) ℕ → List FunctionType → Type 0
AreIndices m ts = (t : FunctionType) → get_by (λ k. slice_cmp nat_cmp (type_key t) k.items) m ≡ found_type t ts
