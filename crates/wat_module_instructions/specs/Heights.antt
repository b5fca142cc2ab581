-- How the code finds a label: by its height, the number of labels outside it, with or without an identifier. Lists of
-- `OpenLabel` have the labels with an identifier alone. Not part of the standard.
use denote.Ref.{Bor}
use Rattle.std.specs.Prelude.{◌≡◌, ℕ, List, [], ◌∷◌, length, map, reverse, nat_le, bytes_eq, Option, Some, None, if◌then◌else◌}
use Rattle.std.specs.BTreeMap.{BTreeMap, get_by}
use Rattle.std.specs.Cmp.Lexicographic.{slice_cmp}
use Rattle.std.specs.Ordering.{nat_cmp}
use Rattle.wat_module_instructions.specs.declared.open_labels.OpenLabel.{OpenLabel}

-- The identifier of a label and its height.
abbrev pub entry : OpenLabel → List ℕ × ℕ
entry l = (l.name.now, l.height)

-- The open labels that have an identifier, the innermost first; in `ls` it is last.
abbrev pub seen : List OpenLabel → List (List ℕ × ℕ)
seen ls = map entry (reverse ls)

-- The height of the innermost label with the identifier `x`.
abbrev pub height_of : List ℕ → List (List ℕ × ℕ) → Option ℕ
height_of x [] = None
height_of x (l ∷ ls) = if bytes_eq l.0 x then Some l.1 else height_of x ls

-- The height of the innermost label with the identifier `x` in `ls`, without the 16 outermost ones. The innermost comes
-- first.
abbrev pub deep_height : List ℕ → List OpenLabel → Option ℕ
deep_height x [] = None
deep_height x (l ∷ ls) = if nat_le 16 (length ls) then (if bytes_eq l.name.now x then Some l.height else deep_height x ls) else None

-- `AreHeights m ls`: for each identifier, `m` returns the height of the innermost label that has it among all but the 16
-- outermost, or `None` if none of them has it.
abbrev pub AreHeights : BTreeMap (Bor (List ℕ)) ℕ → List OpenLabel → Type 0
AreHeights m ls = (x : List ℕ) → get_by (λ k. slice_cmp nat_cmp x k.now) m ≡ deep_height x ls

-- `AreShadowed ls`: each label has the height of the label that it shadows, if neither is among the 16 outermost,
-- otherwise `None`. The innermost label comes first.
abbrev pub AreShadowed : List OpenLabel → Type 0
AreShadowed [] = Unit {0}
AreShadowed (l ∷ ls) = (l.shadowed ≡ deep_height l.name.now ls) × AreShadowed ls
