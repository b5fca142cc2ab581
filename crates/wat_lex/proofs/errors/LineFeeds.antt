-- The offsets of line feeds, and a binary search in them.
use Rattle.std.proofs.Common.{◌≡◌, ◌<◌, ◌≤◌, ◌+◌, ◌-◌, ℕ, zero, suc, Bool, true, false, not, cond, ltb, List, [], ◌∷◌, ◌++◌, length, get_or, take, drop, refl, arith, ap, sym, ◌∙◌, subst, length-append, inl, inr}
use Rattle.std.specs.Prelude.{Some, None}
use Rattle.std.specs.List.{count_by, suffix_len}
use Rattle.std.specs.List.Sorted.{IsNonDecreasingBy, IsPartitionPoint}
use Rattle.std.specs.Simd.Lanes.{chunk}
use Rattle.std.proofs.lemmas.Bool.{cases_Bool, cases_lt, ltb-true, ltb-false}
use Rattle.std.proofs.lemmas.List.{take_all, get_or-append-add, get_or_append_left, get_or-drop, get_or-take, length-drop, length-take-le, take-take}
use Rattle.std.proofs.lemmas.List.Sums.{count_by_more_yes, count_by_more_no, suffix_len_is, sum_by-append, sum_by-take-le}
use Rattle.std.proofs.lemmas.Simd.{chunk-drop}
use Rattle.memchr.specs.Find.{IsFirstByte, is_byte}
use Rattle.wat_lex.specs.errors.LineFeeds.{FeedsUpTo, LineFeeds}
use Rattle.wat_lex.specs.errors.Positions.{is_line_feed, line_and_column}
use Rattle.wat_lex.proofs.errors.Lines.{any_default, not_fed, since, place_within}

abbrev count : List ℕ → ℕ
count = count_by is_line_feed

pub count_chunk : (text : List ℕ) (i n : ℕ) → count_by is_line_feed (drop i text) ≡ count_by is_line_feed (chunk i n text) + count_by is_line_feed (drop (i + n) text)
count_chunk text i n = ap count (chunk-drop i n text) ∙ sum_by-append (λ b. cond (is_line_feed b) 1 0) (chunk i n text) (drop (i + n) text)

-- ---- the number of line feeds before an offset

mono : (xs : List ℕ) (m n : ℕ) → m ≤ n → count (take m xs) ≤ count (take n xs)
mono xs m n l = subst (λ x. count x ≤ count (take n xs)) (take-take m n xs l) (sum_by-take-le (λ b. cond (is_line_feed b) 1 0) (take n xs) m)

none_between : (xs : List ℕ) (a b k : ℕ) → a ≤ k → k < b → k < length xs → count (take a xs) ≡ count (take b xs) → is_line_feed (get_or xs k 0) ≡ false
none_between xs a b k low high l e =
    elim (cases_Bool (is_line_feed (get_or xs k 0))) [
      | inl t ↦ let next : k + 1 ≤ b = omega arith in absurd (omega (arith, mono xs a k low, mono xs (k + 1) b next, count_by_more_yes is_line_feed xs k 0 l t, e))
      | inr f ↦ f
    ]

flat : (xs : List ℕ) (a n : ℕ) → a + n ≤ length xs → ((k : ℕ) → a ≤ k → k < a + n → is_line_feed (get_or xs k 0) ≡ false) → count (take (a + n) xs) ≡ count (take a xs)
flat xs a zero l h = let same : a + 0 ≡ a = omega arith in ap (λ n. count (take n xs)) same
flat xs a (suc n) l h =
    let next : a + suc n ≡ a + n + 1 = omega arith in
    ap (λ n. count (take n xs)) next ∙ count_by_more_no is_line_feed xs (a + n) 0 (omega (arith, l)) (h (a + n) (omega arith) (omega arith))
    ∙ flat xs a n (omega (arith, l)) (λ k low high. h k low (omega (arith, high)))

-- ---- they are found one after another

pub feeds_start : (text : List ℕ) → FeedsUpTo text 0 []
feeds_start text = record {
  within = omega arith;
  inside = λ k l. absurd (omega (arith, l));
  feed = λ k l. absurd (omega (arith, l));
  before = λ k l. absurd (omega (arith, l));
  all = refl;
}

pushed : (P : ℕ → ℕ → Type 0) (xs : List ℕ) (x : ℕ) → ((k : ℕ) → k < length xs → P k (get_or xs k 0)) → P (length xs) x → (k : ℕ) → k < length (xs ++ x ∷ []) → P k (get_or (xs ++ x ∷ []) k 0)
pushed P xs x h p k l =
    elim (cases_lt k (length xs)) [
      | inl m ↦ subst (P k) (sym (get_or_append_left xs (x ∷ []) 0 k m)) (h k m)
      | inr m ↦
          let end : length xs ≡ k = omega (arith, m, l, length-append xs (x ∷ [])) in
          let place : k ≡ length xs + 0 = omega (arith, end) in
          let here : get_or (xs ++ x ∷ []) k 0 ≡ x = ap (λ n. get_or (xs ++ x ∷ []) n 0) place ∙ get_or-append-add xs (x ∷ []) 0 0 in
          subst (λ n. P n (get_or (xs ++ x ∷ []) k 0)) end (subst (P (length xs)) (sym here) p)
    ]

pub feeds_more : (text feeds : List ℕ) (at ahead : ℕ) → FeedsUpTo text at feeds → IsFirstByte (is_byte 10) (drop at text) (Some ahead) → FeedsUpTo text (at + (ahead + 1)) (feeds ++ (at + ahead) ∷ [])
feeds_more text feeds at ahead h f =
    let high = f.0.high in
    let none = f.0.before in
    let size = length-drop at text in
    let inside : at + ahead < length text = omega (arith, high, size) in
    let here : is_line_feed (get_or text (at + ahead) 0) ≡ true = ap is_line_feed (sym (get_or-drop at text ahead 0)) ∙ f.1 in
    let before : count (take (at + ahead) text) ≡ length feeds =
    flat text at ahead (omega (arith, inside)) (λ k low below.
    let place : at + (k - at) ≡ k = omega arith in
    ap (λ n. is_line_feed (get_or text n 0)) (sym place) ∙ ap is_line_feed (sym (get_or-drop at text (k - at) 0)) ∙ not_fed (is_line_feed (get_or (drop at text) (k - at) 0)) (none (k - at) (omega arith) (omega arith)))
    ∙ h.all in
    let next : at + (ahead + 1) ≡ at + ahead + 1 = omega arith in
    record {
      within = omega (arith, inside);
      inside = pushed (λ k x. x < length text) feeds (at + ahead) h.inside inside;
      feed = pushed (λ k x. is_line_feed (get_or text x 0) ≡ true) feeds (at + ahead) h.feed here;
      before = pushed (λ k x. count (take x text) ≡ k) feeds (at + ahead) h.before before;
      all = ap (λ n. count (take n text)) next ∙ count_by_more_yes is_line_feed text (at + ahead) 0 inside here ∙ ap (λ n. n + 1) before ∙ sym (length-append feeds ((at + ahead) ∷ []));
    }

pub feeds_end : (text feeds : List ℕ) (at : ℕ) → FeedsUpTo text at feeds → IsFirstByte (is_byte 10) (drop at text) None → LineFeeds text feeds
feeds_end text feeds at h f =
    let within = h.within in
    let size = length-drop at text in
    let end : length text ≡ at + (length text - at) = omega (arith, within) in
    record {
      within = omega arith;
      inside = h.inside;
      feed = h.feed;
      before = h.before;
      all = ap (λ n. count (take n text)) end
          ∙ flat text at (length text - at) (omega (arith, within)) (λ k low below.
          let place : at + (k - at) ≡ k = omega arith in
          ap (λ n. is_line_feed (get_or text n 0)) (sym place) ∙ ap is_line_feed (sym (get_or-drop at text (k - at) 0)) ∙ not_fed (is_line_feed (get_or (drop at text) (k - at) 0)) (f (k - at) (omega arith) (omega (arith, below, low, within, size))))
          ∙ h.all;
    }

-- ---- a binary search

pub rising : (text feeds : List ℕ) → LineFeeds text feeds → IsNonDecreasingBy (λ x. x) feeds
rising text feeds h = λ i j d l b.
    let first : i < length feeds = omega (arith, l, b) in
    let x = get_or feeds i 0 in
    let y = get_or feeds j 0 in
    let here : get_or feeds i d ≡ x = any_default feeds i d first in
    let there : get_or feeds j d ≡ y = any_default feeds j d b in
    elim (cases_lt y x) [
      | inl m ↦
          let next : y + 1 ≤ x = omega (arith, m) in
          absurd (omega (arith, h.before i first, h.before j b, mono text (y + 1) x next, count_by_more_yes is_line_feed text y 0 (h.inside j b) (h.feed j b), l))
      | inr m ↦ omega (arith, m, here, there)
    ]

abbrev other : ℕ → Bool
other b = not (is_line_feed b)

module _ (text feeds : List ℕ) (h : LineFeeds text feeds) (offset : ℕ) (within : offset ≤ length text) where
  abbrev front : List ℕ
  front = take offset text

  size : length front ≡ offset
  size = length-take-le offset text within

  abbrev pub Point : ℕ → Type 0
  Point line = IsPartitionPoint (λ f. ltb f offset ≡ true) (λ f. ltb f offset ≡ false) feeds line

  at_most : (line : ℕ) → line ≤ length feeds → Point line → count front ≤ line
  at_most line bound p =
      elim (cases_lt line (length feeds)) [
        | inl l ↦
            let past : offset ≤ get_or feeds line 0 = ltb-false (get_or feeds line 0) offset (p.1 line 0 (omega arith) l) in
            omega (arith, mono text offset (get_or feeds line 0) past, h.before line l)
        | inr l ↦ omega (arith, mono text offset (length text) within, h.all, l, bound)
      ]

  last_below : (m : ℕ) → Point (suc m) → get_or feeds m 0 < offset
  last_below m p = ltb-true (get_or feeds m 0) offset (p.0 m 0 (omega arith) (omega arith))

  through_last : (m : ℕ) → m < length feeds → count (take (get_or feeds m 0 + 1) text) ≡ suc m
  through_last m l = omega (arith, count_by_more_yes is_line_feed text (get_or feeds m 0) 0 (h.inside m l) (h.feed m l), h.before m l)

  lines_before : (line : ℕ) → line ≤ length feeds → Point line → count front ≡ line
  lines_before zero bound p = omega (arith, at_most zero bound p)
  lines_before (suc m) bound p =
      let below = last_below m p in
      omega (arith, at_most (suc m) bound p, through_last m (omega (arith, bound)), mono text (get_or feeds m 0 + 1) offset (omega (arith, below)))

  pub on_first_line : Point 0 → (0, offset) ≡ line_and_column text offset
  on_first_line p =
      let none = lines_before 0 (omega arith) p in
      let column : suffix_len other front ≡ length front - 0 = suffix_len_is other front 0 0 (omega arith)
      (λ k low l. let inside : k < offset = omega (arith, l, size) in ap (λ b. other b) (get_or-take offset text k 0 inside) ∙ ap not (none_between text 0 offset k low inside (omega (arith, inside, within)) (sym none)))
      (λ l. absurd (omega (arith, l))) in
      let wide : since front ≡ offset = omega (arith, column, size) in
      sym (place_within text offset within ∙ ap (λ n. (n, since front)) none ∙ ap (λ n. (0, n)) wide)

  on_later_line : (m : ℕ) → suc m ≤ length feeds → Point (suc m) → (suc m, offset - get_or feeds m 0 - 1) ≡ line_and_column text offset
  on_later_line m bound p =
      let f = get_or feeds m 0 in
      let below = last_below m p in
      let lines = lines_before (suc m) bound p in
      let inner : m < length feeds = omega (arith, bound) in
      let back : f + 1 - 1 ≡ f = omega arith in
      let column : suffix_len other front ≡ length front - (f + 1) = suffix_len_is other front (f + 1) 0 (omega (arith, below, size))
      (λ k low l. let inside : k < offset = omega (arith, l, size) in ap (λ b. other b) (get_or-take offset text k 0 inside) ∙ ap not (none_between text (f + 1) offset k low inside (omega (arith, inside, within)) (through_last m inner ∙ sym lines)))
      (λ _. ap (λ n. other (get_or front n 0)) back ∙ ap (λ b. other b) (get_or-take offset text f 0 below) ∙ ap not (h.feed m inner)) in
      let wide : since front ≡ offset - f - 1 = omega (arith, column, size) in
      sym (place_within text offset within ∙ ap (λ n. (n, since front)) lines ∙ ap (λ n. (suc m, n)) wide)

  pub on_line : (line : ℕ) → (line ≡ 0 → ⊥) → line ≤ length feeds → Point line → (line, offset - get_or feeds (line - 1) 0 - 1) ≡ line_and_column text offset
  on_line zero n bound p = absurd (n refl)
  on_line (suc m) n bound p = let less : suc m - 1 ≡ m = omega arith in ap (λ k. (suc m, offset - get_or feeds k 0 - 1)) less ∙ on_later_line m bound p

  pub below_line : (line : ℕ) → (line ≡ 0 → ⊥) → Point line → get_or feeds (line - 1) 0 < offset
  below_line zero n p = absurd (n refl)
  below_line (suc m) n p = let less : suc m - 1 ≡ m = omega arith in omega (arith, last_below m p, ap (λ k. get_or feeds k 0) less)

-- there are no more than in the whole text
pub feeds_fit : (text feeds : List ℕ) (at : ℕ) → FeedsUpTo text at feeds → length feeds ≤ count text
feeds_fit text feeds at h = omega (arith, h.all, sum_by-take-le (λ b. cond (is_line_feed b) 1 0) text at)

pub feeds_all : (text feeds : List ℕ) → LineFeeds text feeds → length feeds ≡ count text
feeds_all text feeds h = sym h.all ∙ ap count (take_all (length text) text (omega arith))
