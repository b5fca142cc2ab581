-- The custom sections among items, one item at a time.
use Rattle.std.proofs.Common.{◌≡◌, ◌∙◌, ◌≤◌, arith, length, map, ℕ, suc, zero, List, [], ◌∷◌, ◌++◌, refl, sym, ap, append_assoc, append-nil, Result, Ok, Err}
use Rattle.std.specs.Prelude.{◌==◌, ◌&&◌, true, false, if◌then◌else◌}
use Rattle.wat_module_custom.specs.Customs.{Annotated, CustomSection, Item, Plain, level, sections_from, with_first}
use Rattle.wat_module_custom.specs.declared.reading.Piece.{Piece}
use Rattle.wat_module_custom.specs.declared.reading.Piece.TheVariants as piece

-- Custom sections before further ones.
abbrev pub with_all : List CustomSection → Result (List CustomSection) ℕ → Result (List CustomSection) ℕ
with_all cs (Ok ds) = Ok (cs ++ ds)
with_all cs (Err at) = Err at

pub all_none : (r : Result (List CustomSection) ℕ) → r ≡ with_all [] r
all_none (Ok ds) = refl
all_none (Err at) = refl

with_one : (cs : List CustomSection) (c : CustomSection) (r : Result (List CustomSection) ℕ) → with_all cs (with_first c r) ≡ with_all (cs ++ (c ∷ [])) r
with_one cs c (Ok ds) = ap Ok (sym (append_assoc cs (c ∷ []) ds))
with_one cs c (Err at) = refl

one_annotated : (left d : ℕ) (c : CustomSection) (at : ℕ) (is : List Item) → sections_from left d (Annotated c at ∷ is) ≡ (if (left == 0) && (d == 1) then with_first c (sections_from left d is) else Err at)
unfolding sections_from
one_annotated zero d c at is = refl
one_annotated (suc left) d c at is = refl

one_misplaced : (cs : List CustomSection) (left d : ℕ) (c : CustomSection) (at : ℕ) (is : List Item) → ((left == 0) && (d == 1)) ≡ false → with_all cs (sections_from left d (Annotated c at ∷ is)) ≡ Err at
unfolding sections_from
one_misplaced cs zero d c at is e = ap (λ b. with_all cs (if b then with_first c (sections_from zero d is) else Err at)) e
one_misplaced cs (suc left) d c at is e = ap (λ b. with_all cs (if b then with_first c (sections_from (suc left) d is) else Err at)) e

no_more : (cs : List CustomSection) (left d : ℕ) → with_all cs (sections_from left d []) ≡ Ok cs
unfolding sections_from
no_more cs left d = ap Ok (append-nil cs)

-- The invariant after one more item: `whole` is the result for all items, and `is` are those that are left.
module _ (whole : Result (List CustomSection) ℕ) (cs : List CustomSection) (left d : ℕ) (is rest : List Item) where
  pub before : (m : ℕ) (p : Piece) → whole ≡ with_all cs (sections_from left d is) → is ≡ Plain p ∷ rest → left ≡ suc m → whole ≡ with_all cs (sections_from m d rest)
  unfolding sections_from
  before m p h e k = h ∙ ap (λ x. with_all cs (sections_from left d x)) e ∙ ap (λ n. with_all cs (sections_from n d (Plain p ∷ rest))) k

  pub plain : (p : Piece) → whole ≡ with_all cs (sections_from left d is) → is ≡ Plain p ∷ rest → left ≡ zero → whole ≡ with_all cs (sections_from left (level p d) rest)
  unfolding sections_from
  plain p h e k = h ∙ ap (λ x. with_all cs (sections_from left d x)) e ∙ ap (λ n. with_all cs (sections_from n d (Plain p ∷ rest))) k ∙ ap (λ n. with_all cs (sections_from n (level p d) rest)) (sym k)

  pub placed_section : (c : CustomSection) (at : ℕ) → whole ≡ with_all cs (sections_from left d is) → is ≡ Annotated c at ∷ rest → ((left == 0) && (d == 1)) ≡ true → whole ≡ with_all (cs ++ (c ∷ [])) (sections_from left d rest)
  placed_section c at h e k = h ∙ ap (λ x. with_all cs (sections_from left d x)) e ∙ ap (with_all cs) (one_annotated left d c at rest ∙ ap (λ b. if b then with_first c (sections_from left d rest) else Err at) k) ∙ with_one cs c (sections_from left d rest)

  pub misplaced_section : (c : CustomSection) (at : ℕ) → whole ≡ with_all cs (sections_from left d is) → is ≡ Annotated c at ∷ rest → ((left == 0) && (d == 1)) ≡ false → whole ≡ Err at
  misplaced_section c at h e k = h ∙ ap (λ x. with_all cs (sections_from left d x)) e ∙ one_misplaced cs left d c at rest k

  pub at_end : whole ≡ with_all cs (sections_from left d is) → is ≡ [] → whole ≡ Ok cs
  at_end h e = h ∙ ap (λ x. with_all cs (sections_from left d x)) e ∙ no_more cs left d

pub level_most : (p : Piece) (d : ℕ) → level p d ≤ suc d
level_most piece.Open d = omega arith
level_most piece.Close zero = omega arith
level_most piece.Close (suc d) = omega arith
level_most piece.Module d = omega arith
level_most piece.Id d = omega arith
level_most piece.Other d = omega arith

pub map_push : {A B : Type 0} (f : A → B) (xs : List A) (x : A) → map f (xs ++ (x ∷ [])) ≡ map f xs ++ (f x ∷ [])
map_push f [] x = refl
map_push f (y ∷ xs) x = ap (λ z. f y ∷ z) (map_push f xs x)

pub nothing_left : {A : Type 0} (xs : List A) → length xs ≡ 0 → xs ≡ []
nothing_left [] h = refl
nothing_left (x ∷ xs) h = absurd (omega arith)
