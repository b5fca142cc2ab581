-- WebAssembly 2.0, 6.6.13 (modules), and 3.0, appendix, custom annotations: which annotations of a module are where a field
-- may be, by the tokens before each. `sections_in` of `Customs` computes it.
use Rattle.std.specs.Prelude.{◌≡◌, ◌≤◌, ◌↔◌, ℕ, List, [], ◌∷◌, ◌++◌, length, drop, Result, Ok, Err}
use Rattle.wat_module_custom.specs.Customs.{Annotated, CustomSection, Item, Plain, head, level, pieces, sections_in}
use Rattle.wat_module_custom.specs.declared.reading.Piece.{Piece}

-- The number of open groups after these tokens, from that before them.
abbrev pub levels : ℕ → List Piece → ℕ
levels d [] = d
levels d (p ∷ ps) = levels (level p d) ps

-- `IsFieldPlace n d ps`: a field may follow the tokens `ps`. `n` tokens come before the first field, and `d` groups are open
-- then. The `n` tokens are among `ps`, and after `ps` no group is open but that of the module.
pub record IsFieldPlace (n d : ℕ) (ps : List Piece) : Type 0 where
  pub begun : n ≤ length ps
  pub outside : levels d (drop n ps) ≡ 1

-- Each annotation among these items is where a field may be: it follows such tokens.
abbrev pub AllPlaced : ℕ → ℕ → List Item → Type 0
AllPlaced n d is = (before after : List Item) (c : CustomSection) (at : ℕ) → is ≡ before ++ (Annotated c at ∷ after) → IsFieldPlace n d (pieces before)

-- `FirstMisplaced n d is at`: among these items, the annotation at the offset `at` is the first one where no field may be.
pub record FirstMisplaced (n d : ℕ) (is : List Item) (at : ℕ) : Type 0 where
  pub before : List Item
  pub after : List Item
  pub section : CustomSection
  pub are : is ≡ before ++ (Annotated section at ∷ after)
  pub placed : AllPlaced n d before
  pub misplaced : ¬ IsFieldPlace n d (pieces before)

-- The custom sections of all annotations among these items, in their order.
abbrev pub all_sections : List Item → List CustomSection
all_sections [] = []
all_sections (Plain p ∷ is) = all_sections is
all_sections (Annotated c at ∷ is) = c ∷ all_sections is

-- `HavePlaces n d is r`: `r` are the custom sections of all annotations, if each is where a field may be. Otherwise it is the
-- offset of the first one where no field may be.
abbrev pub HavePlaces : ℕ → ℕ → List Item → Result (List CustomSection) ℕ → Type 0
HavePlaces n d is (Ok cs) = AllPlaced n d is × (cs ≡ all_sections is)
HavePlaces n d is (Err at) = FirstMisplaced n d is at

-- Theorem: `r` are the custom sections of the items of a module, or the offset of the error in them, if and only if
-- `HavePlaces` holds of `r`. One group is open before the first field, that of the module, even if `(module` is omitted.
abbrev pub SectionsArePlaced : Type 0
SectionsArePlaced = (is : List Item) (r : Result (List CustomSection) ℕ) → HavePlaces (head (pieces is)) 1 is r ↔ (r ≡ sections_in is)
