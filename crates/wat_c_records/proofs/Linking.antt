-- The link of a row, by that of the row after it.
use Rattle.std.proofs.Common.{◌≡◌, ◌≢◌, ◌⊎◌, ◌≤◌, ◌<◌, ◌+◌, ◌-◌, ◌++◌, ℕ, zero, suc, List, [], ◌∷◌, true, false, length, drop, refl, arith, ap, sym}
use Rattle.std.proofs.Common.{◌∙◌, subst, inl, inr, length-append, length-drop, drop-drop, Some, None}
use Rattle.std.specs.Prelude.{map, slice_get, slice_set}
use Rattle.std.proofs.lemmas.List.{drop_all, length-map}
use Rattle.std.proofs.lemmas.Option.{slice_get_within}
use Rattle.wat_c_records.specs.Links.{opens, closes, codes_of, ClosedWithin, IsLink, LinkedFrom, without_link}
use Rattle.wat_c_records.specs.declared.counting.Row.{Row}
use Rattle.wat_c_records.proofs.Fronts.{front, none_past}
use Rattle.wat_c_records.proofs.Closing.{Closed, Closed.close, Closed.beyond, Closed.nested, Cut, at_nil, at_plain, at_open, closed_unique, closed_from}
use Rattle.wat_c_records.proofs.Closing.{cut_from}

-- what `IsLink` says, by the rest after the group
abbrev pub Link : List ℕ → ℕ → ℕ → Type 0
Link codes i zero = (r : List ℕ) → Closed (drop (i + 1) codes) r → ⊥
Link codes i (suc j) = (i + 1 < suc j) × (suc j ≤ length codes) × Closed (drop (i + 1) codes) (drop (suc j) codes)

drop_past : (w : List ℕ) (c : ℕ) (r : List ℕ) → drop (length w + 1) (w ++ (c ∷ r)) ≡ r
drop_past [] c r = refl
drop_past (a ∷ w) c r = let e : length (a ∷ w) + 1 ≡ suc (length w + 1) = omega arith in ap (λ k. drop k ((a ∷ w) ++ (c ∷ r))) e ∙ drop_past w c r

cut_of : (s : List ℕ) (n : ℕ) → (h : ClosedWithin s n) → Cut s h.rest
cut_of s n h = record { within = h.within; last = h.last; balanced = h.balanced; closing = h.closing; cut = h.cut }

cut_length : (s r : List ℕ) → (g : Cut s r) → length s ≡ length g.within + 1 + length r
cut_length s r g = omega (arith, ap length g.cut, length-append g.within (g.last ∷ r))

pub link_from : (codes : List ℕ) (i l : ℕ) → Link codes i l → IsLink codes i l
link_from codes i zero h = λ n k. h k.rest (closed_from (drop (i + 1) codes) k.rest (cut_of (drop (i + 1) codes) n k))
link_from codes i (suc j) h =
    let g = cut_from (drop (i + 1) codes) (drop (suc j) codes) h.2 in
    let e : suc j ≡ i + 1 + (length g.within + 1) = omega (
      arith,
      cut_length (drop (i + 1) codes) (drop (suc j) codes) g,
      length-drop
          (i + 1) codes,
      length-drop (suc j) codes,
      h.0,
      h.1,
    ) in (
      length g.within + 1,
      record {
        within = g.within;
        last = g.last;
        rest = drop
            (suc j) codes;
        balanced = g.balanced;
        closing = g.closing;
        cut = g.cut;
        count = refl;
      },
      e,
    )

pub link_to : (codes : List ℕ) (i l : ℕ) → IsLink codes i l → Link codes i l
link_to codes i zero h = λ r k.
    let g = cut_from (drop (i + 1) codes) r k in
    h (length g.within + 1)
    (record { within = g.within; last = g.last; rest = r; balanced = g.balanced; closing = g.closing; cut = g.cut; count = refl })
link_to codes i (suc j) h =
    let g = cut_of (drop (i + 1) codes) h.0 h.1 in
    let e : suc j ≡ i + 1 + (length h.1.within + 1) = omega (arith, h.2, h.1.count) in
    let f : h.1.rest ≡ drop (suc j) codes =
    sym (ap (drop (length h.1.within + 1)) h.1.cut ∙ drop_past h.1.within h.1.last h.1.rest)
    ∙ drop-drop (length h.1.within + 1) (i + 1) codes ∙ ap (λ k. drop k codes) (sym e) in
    let n : length (drop (i + 1) codes) ≡ length h.1.within + 1 + length h.1.rest = omega (
      arith,
      ap length h.1.cut,
      length-append h.1.within
          (h.1.last ∷ h.1.rest),
    ) in
    let m : suc j ≤ length codes = omega (arith, e, n, length-drop (i + 1) codes) in
    (omega (arith, e), m, subst (Closed (drop (i + 1) codes)) f (closed_from (drop (i + 1) codes) h.1.rest g))

module _ (codes : List ℕ) (i : ℕ) where
  pub link_none : length codes ≤ i + 1 → IsLink codes i 0
  link_none h = link_from codes i 0 (λ r k. at_nil r (subst (λ s. Closed s r) (drop_all (i + 1) codes h) k))

  module _ (c : ℕ) (e : slice_get codes (i + 1) ≡ Some c) (within : i + 1 < length codes) where
    at_front : (P : List ℕ → Type 0) → P (c ∷ drop (i + 1 + 1) codes) → P (drop (i + 1) codes)
    at_front P h = subst P (sym (front codes (i + 1) c e)) h

    in_front : (P : List ℕ → Type 0) → P (drop (i + 1) codes) → P (c ∷ drop (i + 1 + 1) codes)
    in_front P h = subst P (front codes (i + 1) c e) h

    pub link_close : closes c ≡ true → IsLink codes i (i + 2)
    link_close f =
        let s : i + 2 ≡ suc (i + 1) = omega arith in
        let t : i + 1 + 1 ≡ suc (i + 1) = omega arith in
        subst (IsLink codes i) (sym s) (link_from codes i (suc (i + 1)) (
          omega arith,
          omega arith,
          at_front (λ x. Closed x (drop (suc
              (i + 1)) codes)) (subst (λ k. Closed (c ∷ drop k codes) (drop (suc (i + 1)) codes)) (sym t) (close f)),
        ))

    plain_next : (l : ℕ) → opens c ≡ false → closes c ≡ false → Link codes (i + 1) l → Link codes i l
    plain_next zero o f h = λ r k. h r (at_plain c (drop (i + 1 + 1) codes) r o f (in_front (λ x. Closed x r) k))
    plain_next (suc j) o f h = (omega (arith, h.0), h.1, at_front (λ x. Closed x (drop (suc j) codes)) (beyond o f h.2))

    pub link_plain : (l : ℕ) → opens c ≡ false → closes c ≡ false → IsLink codes (i + 1) l → IsLink codes i l
    link_plain l o f h = link_from codes i l (plain_next l o f (link_to codes (i + 1) l h))

    pub link_unclosed : opens c ≡ true → IsLink codes (i + 1) 0 → IsLink codes i 0
    link_unclosed o h = link_from codes i 0 (λ r k. let g = at_open c (drop (i + 1 + 1) codes) r o (in_front (λ x. Closed x r) k) in link_to codes
        (i + 1) 0 h g.0 g.1)

    open_next : (j l : ℕ) → opens c ≡ true → Link codes (i + 1) (suc j) → Link codes j l → Link codes i l
    open_next j zero o h k = λ r g.
        let n = at_open c (drop (i + 1 + 1) codes) r o (in_front (λ x. Closed x r) g) in
        let same = closed_unique (drop (i + 1 + 1) codes) n.0 (drop (suc j) codes) n.1 h.2 in
        let t : suc j ≡ j + 1 = omega arith in
        k r (subst (λ m. Closed (drop m codes) r) t (subst (λ x. Closed x r) same n.2))
    open_next j (suc l) o h k =
        let t : j + 1 ≡ suc j = omega arith in (
          omega (arith, h.0, k.0),
          k.1,
          at_front (λ x. Closed x (drop (suc l) codes)) (nested o h.2 (subst (λ m. Closed (drop m codes) (drop
              (suc l) codes)) t k.2)),
        )

    pub link_open : (j l : ℕ) → opens c ≡ true → IsLink codes (i + 1) (suc j) → IsLink codes j l → IsLink codes i l
    link_open j l o h k = link_from codes i l (open_next j l o (link_to codes (i + 1) (suc j) h) (link_to codes j l k))

-- the code of a row
code_at : (rows : List Row) (i : ℕ) (row : Row) → slice_get rows i ≡ Some row → slice_get (codes_of rows) i ≡ Some row.kind.code
code_at [] i row e = cc
code_at (r ∷ rows) zero row e = let k : r ≡ row = cc in ap (λ (x : Row). Some x.kind.code) k
code_at (r ∷ rows) (suc i) row e = code_at rows i row e

codes_length : (rows : List Row) → length (codes_of rows) ≡ length rows
codes_length rows = length-map rows (λ (row : Row). row.kind.code)

module _ (rows : List Row) (i : ℕ) (linked : LinkedFrom (i + 1) rows) where
  pub linked_none : slice_get rows (i + 1) ≡ None → IsLink (codes_of rows) i 0
  linked_none e = link_none (codes_of rows) i (omega (arith, codes_length rows, none_past rows (i + 1) e))

  module _ (next : Row) (e : slice_get rows (i + 1) ≡ Some next) where
    code : slice_get (codes_of rows) (i + 1) ≡ Some next.kind.code
    code = code_at rows (i + 1) next e

    within : i + 1 < length (codes_of rows)
    within = omega (arith, codes_length rows, slice_get_within rows (i + 1) next e)

    after : IsLink (codes_of rows) (i + 1) next.link
    after = linked (i + 1) next (omega arith) e

    pub linked_close : closes next.kind.code ≡ true → IsLink (codes_of rows) i (i + 2)
    linked_close f = link_close (codes_of rows) i next.kind.code code within f

    pub linked_plain : closes next.kind.code ≡ false → opens next.kind.code ≡ false → IsLink (codes_of rows) i next.link
    linked_plain f o = link_plain (codes_of rows) i next.kind.code code within next.link o f after

    pub linked_unclosed : opens next.kind.code ≡ true → next.link ≡ 0 → IsLink (codes_of rows) i 0
    linked_unclosed o z = link_unclosed (codes_of rows) i next.kind.code code within o (subst (IsLink (codes_of rows) (i + 1)) z after)

    pub closed_inside : next.link ≢ 0 → next.link ≤ length rows
    closed_inside n = (elim next.link as (λ l. IsLink (codes_of rows) (i + 1) l → l ≢ 0 → l ≤ length rows) [
      | zero ↦ λ h m. absurd (m refl)
      | suc j ↦ λ h m. omega (arith, codes_length rows, (link_to (codes_of rows) (i + 1) (suc j) h).1)
    ]) after n

    pub linked_open : (last : Row) → opens next.kind.code ≡ true → next.link ≢ 0 → slice_get rows (next.link - 1) ≡ Some last
        → IsLink (codes_of rows) i last.link
    linked_open last o n f = (elim next.link as (λ l. IsLink (codes_of rows) (i + 1) l → l ≢ 0 → slice_get rows (l - 1) ≡ Some last
        → IsLink (codes_of rows) i last.link) [
          | zero ↦ λ h m k. absurd (m refl)
          | suc j ↦ λ h m k.
              let e : suc j - 1 ≡ j = omega arith in
              let l : i + 1 + 1 < suc j = (link_to (codes_of rows) (i + 1) (suc j) h).0 in
              link_open (codes_of rows) i next.kind.code code within j last.link o h (linked j last (omega (arith, l)) (subst
              (λ p. slice_get rows p ≡ Some last) e k))
        ]) after n f

get_of_set : (rows : List Row) (i k : ℕ) (y row : Row) → slice_get (slice_set rows i y) k ≡ Some row
    → ((k ≡ i) × (y ≡ row)) ⊎ ((k ≢ i) × (slice_get rows k ≡ Some row))
get_of_set [] i k y row e = cc
get_of_set (r ∷ rows) zero zero y row e = let f : y ≡ row = cc in inl (refl, f)
get_of_set (r ∷ rows) zero (suc k) y row e = inr (λ n. absurd (omega (arith, n)), e)
get_of_set (r ∷ rows) (suc i) zero y row e = inr (λ n. absurd (omega (arith, n)), e)
get_of_set (r ∷ rows) (suc i) (suc k) y row e = elim (get_of_set rows i k y row e) [
  | inl h ↦ inl (ap suc h.0, h.1)
  | inr h ↦ let n = h.0 in inr (λ m. n (omega (arith, m)), h.1)
]

map_of_set : {B : Type 0} (f : Row → B) (rows : List Row) (k : ℕ) (y row : Row) → slice_get rows k ≡ Some row → f y ≡ f row
    → map f (slice_set rows k y) ≡ map f rows
map_of_set f [] k y row e h = refl
map_of_set f (r ∷ rows) zero y row e h = let k : r ≡ row = cc in ap (λ x. x ∷ map f rows) (h ∙ sym (ap f k))
map_of_set f (r ∷ rows) (suc k) y row e h = ap (λ x. f r ∷ x) (map_of_set f rows k y row e h)

pub linked_more : (rows : List Row) (k x : ℕ) (row : Row) → slice_get rows k ≡ Some row → LinkedFrom (k + 1) rows → IsLink (codes_of rows) k x
    → LinkedFrom k (slice_set rows k (record row { link = x }))
linked_more rows k x row there linked link = λ number other l e.
    let y : Row = record row { link = x } in
    let same : codes_of (slice_set rows k y) ≡ codes_of rows = map_of_set (λ (r : Row). r.kind.code) rows k y row there refl in
    subst (λ c. IsLink c number other.link) (sym same) (elim (get_of_set rows k number y other e) [
      | inl h ↦ subst (λ n. IsLink (codes_of rows) n other.link) (sym h.0) (subst (IsLink (codes_of rows) k) (ap (λ (r : Row). r.link) h.1) link)
      | inr h ↦ let n = h.0 in linked number other (omega (arith, n, l)) h.1
    ])

pub kept_more : (rows : List Row) (k x : ℕ) (row : Row) → slice_get rows k ≡ Some row
    → map without_link (slice_set rows k (record row { link = x })) ≡ map without_link rows
kept_more rows k x row there = map_of_set without_link rows k (record row { link = x }) row there refl
