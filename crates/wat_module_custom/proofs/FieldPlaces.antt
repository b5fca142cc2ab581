-- The custom sections of items, by the tokens before each annotation.
use Rattle.std.proofs.Common.{◌≡◌, ◌∙◌, ◌⊎◌, ℕ, zero, suc, Bool, true, false, List, [], ◌∷◌, ◌++◌, refl, sym, ap, subst, arith, inl, inr, Result, Ok, Err}
use Rattle.std.specs.Prelude.{◌==◌, ◌&&◌, if◌then◌else◌}
use Rattle.std.proofs.lemmas.Bool.Decides.{nat_tests}
use Rattle.std.proofs.lemmas.Bool.{eqb-true, eq-eqb}
use Rattle.wat_module_custom.specs.Customs.{Annotated, CustomSection, Item, Plain, head, level, pieces, sections_from, sections_in, with_first}
use Rattle.wat_module_custom.specs.Placements.{AllPlaced, FirstMisplaced, HavePlaces, IsFieldPlace, SectionsArePlaced}
use Rattle.wat_module_custom.specs.declared.reading.Piece.{Piece}

-- ---- lists of items

abbrev first_or : Item → List Item → Item
first_or i [] = i
first_or i (j ∷ is) = j

abbrev rest_of : List Item → List Item
rest_of [] = []
rest_of (i ∷ is) = is

abbrev is_plain : Item → Bool
is_plain (Plain p) = true
is_plain (Annotated c at) = false

abbrev offset_of : Item → ℕ
offset_of (Plain p) = 0
offset_of (Annotated c at) = at

heads : (i j : Item) (is js : List Item) → i ∷ is ≡ j ∷ js → i ≡ j
heads i j is js e = ap (first_or i) e

tails : (i j : Item) (is js : List Item) → i ∷ is ≡ j ∷ js → is ≡ js
tails i j is js e = ap rest_of e

not_annotated : (p : Piece) (c : CustomSection) (at : ℕ) → Plain p ≡ Annotated c at → ⊥
not_annotated p c at e = let d : true ≡ false = ap is_plain e in cc

-- No item is among none.
none_among : (before after : List Item) (i : Item) → [] ≡ before ++ (i ∷ after) → ⊥
none_among [] after i e = cc
none_among (j ∷ before) after i e = cc

-- Two items of one list: they are the same, or one is before the other.
pub record Before (left right : List Item) (i : Item) : Type 0 where
  pub between : List Item
  pub are : right ≡ left ++ (i ∷ between)

compared : (b d a e : List Item) (i j : Item) → b ++ (i ∷ a) ≡ d ++ (j ∷ e) → ((b ≡ d) × (i ≡ j)) ⊎ (Before b d i ⊎ Before d b j)
compared [] [] a e i j h = inl (refl, heads i j a e h)
compared [] (y ∷ d) a e i j h = inr (inl (record { between = d; are = ap (λ x. x ∷ d) (sym (heads i y a _ h)) }))
compared (x ∷ b) [] a e i j h = inr (inr (record { between = b; are = ap (λ z. z ∷ b) (heads x j _ e h) }))
compared (x ∷ b) (y ∷ d) a e i j h =
    let same : x ≡ y = heads x y _ _ h in
    elim (compared b d a e i j (tails x y _ _ h)) [
      | inl s ↦ inl (ap (λ l. x ∷ l) s.0 ∙ ap (λ z. z ∷ d) same, s.1)
      | inr o ↦ elim o [
        | inl k ↦ inr (inl (record { between = k.between; are = ap (λ l. y ∷ l) k.are ∙ ap (λ z. z ∷ (b ++ (i ∷ k.between))) (sym same) }))
        | inr k ↦ inr (inr (record { between = k.between; are = ap (λ l. x ∷ l) k.are ∙ ap (λ z. z ∷ (d ++ (j ∷ k.between))) same }))
      ]
    ]

-- ---- `sections_from` has the places

-- A token that is not in an annotation comes first: `n` and `d` become `m` and `k`.
module _ (n d m k : ℕ) (p : Piece) (on : (ps : List Piece) → IsFieldPlace m k ps → IsFieldPlace n d (p ∷ ps)) (back : (ps : List Piece) → IsFieldPlace n d (p ∷ ps) → IsFieldPlace m k ps) where
  plain_all : (is : List Item) → AllPlaced m k is → AllPlaced n d (Plain p ∷ is)
  plain_all is h [] after c at e = absurd (not_annotated p c at (heads _ _ _ _ e))
  plain_all is h (i ∷ before) after c at e = subst (λ j. IsFieldPlace n d (pieces (j ∷ before))) (heads _ _ _ _ e) (on (pieces before) (h before after c at (tails _ _ _ _ e)))

  plain_first : (is : List Item) (at : ℕ) → FirstMisplaced m k is at → FirstMisplaced n d (Plain p ∷ is) at
  plain_first is at h = record {
    before = Plain p ∷ h.before;
    after = h.after;
    section = h.section;
    are = ap (λ l. Plain p ∷ l) h.are;
    placed = plain_all h.before h.placed;
    misplaced = λ f. h.misplaced (back (pieces h.before) f);
  }

  plain_step : (is : List Item) (r : Result (List CustomSection) ℕ) → HavePlaces m k is r → HavePlaces n d (Plain p ∷ is) r
  plain_step is (Ok cs) h = (plain_all is h.0, h.1)
  plain_step is (Err at) h = plain_first is at h

-- An annotation that is where a field may be comes first.
module _ (d : ℕ) (c : CustomSection) (at : ℕ) (outside : d ≡ 1) where
  section_all : (is : List Item) → AllPlaced 0 d is → AllPlaced 0 d (Annotated c at ∷ is)
  section_all is h [] after c' at' e = record { begun = omega arith; outside = outside }
  section_all is h (i ∷ before) after c' at' e = subst (λ j. IsFieldPlace 0 d (pieces (j ∷ before))) (heads _ _ _ _ e) (h before after c' at' (tails _ _ _ _ e))

  section_first : (is : List Item) (end : ℕ) → FirstMisplaced 0 d is end → FirstMisplaced 0 d (Annotated c at ∷ is) end
  section_first is end h = record {
    before = Annotated c at ∷ h.before;
    after = h.after;
    section = h.section;
    are = ap (λ l. Annotated c at ∷ l) h.are;
    placed = section_all h.before h.placed;
    misplaced = h.misplaced;
  }

  section_step : (is : List Item) (r : Result (List CustomSection) ℕ) → HavePlaces 0 d is r → HavePlaces 0 d (Annotated c at ∷ is) (with_first c r)
  section_step is (Ok cs) h = (section_all is h.0, ap (λ l. c ∷ l) h.1)
  section_step is (Err end) h = section_first is end h

-- An annotation that is where no field may be comes first.
misplaced_first : (n d : ℕ) (c : CustomSection) (at : ℕ) (is : List Item) → (IsFieldPlace n d [] → ⊥) → FirstMisplaced n d (Annotated c at ∷ is) at
misplaced_first n d c at is outside = record {
  before = [];
  after = is;
  section = c;
  are = refl;
  placed = λ before after c' at' e. absurd (none_among before after (Annotated c' at') e);
  misplaced = outside;
}

section_by : (d : ℕ) (c : CustomSection) (at : ℕ) (is : List Item) (b : Bool) → (d == 1) ≡ b → HavePlaces 0 d is (sections_from 0 d is) → HavePlaces 0 d (Annotated c at ∷ is) (if b then with_first c (sections_from 0 d is) else Err at)
section_by d c at is true e h = section_step d c at (eqb-true d 1 e) is (sections_from 0 d is) h
section_by d c at is false e h = misplaced_first 0 d c at is (λ f. let o : d ≡ 1 = f.outside in let t : (d == 1) ≡ true = eq-eqb d 1 o in cc)

sound : (n d : ℕ) (is : List Item) → HavePlaces n d is (sections_from n d is)
unfolding sections_from
sound n d [] = ((λ before after c at e. absurd (none_among before after (Annotated c at) e)), refl)
sound (suc n) d (Plain p ∷ is) =
    plain_step (suc n) d n d p (λ ps f. record { begun = omega (arith, f.begun); outside = f.outside }) (λ ps f. record { begun = omega (arith, f.begun); outside = f.outside }) is (sections_from n d is) (sound n d is)
sound zero d (Plain p ∷ is) =
    plain_step zero d zero (level p d) p (λ ps f. record { begun = omega arith; outside = f.outside }) (λ ps f. record { begun = omega arith; outside = f.outside }) is (sections_from zero (level p d) is) (sound zero (level p d) is)
sound zero d (Annotated c at ∷ is) = section_by d c at is (d == 1) refl (sound zero d is)
sound (suc n) d (Annotated c at ∷ is) = too_early n d c at is (suc n == 0) (more n) (sections_from (suc n) d is)
  where
    more : (n : ℕ) → (suc n == 0) ≡ false
    more n = grind (arith, nat_tests)

    too_early : (n d : ℕ) (c : CustomSection) (at : ℕ) (is : List Item) (b : Bool) → b ≡ false → (r : Result (List CustomSection) ℕ) → HavePlaces (suc n) d (Annotated c at ∷ is) (if b && (d == 1) then with_first c r else Err at)
    too_early n d c at is true e r = cc
    too_early n d c at is false e r = misplaced_first (suc n) d c at is (λ f. omega (arith, f.begun))

-- ---- the places determine the result

not_both : (n d : ℕ) (is : List Item) (at : ℕ) → AllPlaced n d is → FirstMisplaced n d is at → ⊥
not_both n d is at all first = first.misplaced (all first.before first.after first.section at first.are)

one_offset : (n d : ℕ) (is : List Item) (at end : ℕ) → FirstMisplaced n d is at → FirstMisplaced n d is end → at ≡ end
one_offset n d is at end h k =
    elim (compared h.before k.before h.after k.after (Annotated h.section at) (Annotated k.section end) (sym h.are ∙ k.are)) [
      | inl s ↦ ap offset_of s.1
      | inr o ↦ elim o [
        | inl b ↦ absurd (h.misplaced (k.placed h.before b.between h.section at b.are))
        | inr b ↦ absurd (k.misplaced (h.placed k.before b.between k.section end b.are))
      ]
    ]

one : (n d : ℕ) (is : List Item) (r q : Result (List CustomSection) ℕ) → HavePlaces n d is r → HavePlaces n d is q → r ≡ q
one n d is (Ok cs) (Ok ds) h k = ap Ok (h.1 ∙ sym k.1)
one n d is (Ok cs) (Err end) h k = absurd (not_both n d is end h.0 k)
one n d is (Err at) (Ok ds) h k = absurd (not_both n d is at k.0 h)
one n d is (Err at) (Err end) h k = ap Err (one_offset n d is at end h k)

pub sections_are_placed : SectionsArePlaced
sections_are_placed = λ is r. (
  (λ h. one (head (pieces is)) 1 is r (sections_in is) h (sound (head (pieces is)) 1 is)),
  (λ e. subst (HavePlaces (head (pieces is)) 1 is) (sym e) (sound (head (pieces is)) 1 is)),
)
