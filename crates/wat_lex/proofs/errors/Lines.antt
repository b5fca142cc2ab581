-- The lines of a text, from the start of one of them on.
use Rattle.std.proofs.Common.{◌≡◌, ◌≢◌, ◌<◌, ◌≤◌, ◌+◌, ◌-◌, ℕ, zero, suc, Bool, true, false, not, cond, List, [], ◌∷◌, ◌++◌, length, get_or, take, drop, reverse, refl, arith, true≢false, eq-eqb, ap, sym, ◌∙◌, subst, length-drop, take-append-drop, inl, inr, one-add, add-one, zero-add}
use Rattle.std.specs.Prelude.{◌==◌, Some, None, unwrap_or, slice_get, if◌then◌else◌}
use Rattle.std.specs.List.{All, count_by, suffix_len, slice_split, onto_first}
use Rattle.std.specs.Str.{IsUtf8, IsCharBoundary}
use Rattle.std.specs.Str.Lines.{lines, lines_of_parts, strip_carriage_return}
use Rattle.std.proofs.lemmas.Bool.{cases_Bool, eqb-true, le-leb, ne_eqb}
use Rattle.std.proofs.lemmas.List.{get_or-take, get_or-drop, get_or-reverse, length-take-le, length-reverse, take-take, nil_from_length}
use Rattle.std.proofs.lemmas.List.Sums.{prefix_len_passes, prefix_len_stops, suffix_len-le-length, sum_by-cons, sum_by-append}
use Rattle.std.proofs.lemmas.List.Splits.{slice_split-cons_yes, slice_split-cons_no, slice_split_none, slice_split_at}
use Rattle.std.proofs.lemmas.Str.{IsCharBoundary-start, IsCharBoundary-after_ascii}
use Rattle.std.proofs.Math.Seq.{drop-cons}
use Rattle.memchr.specs.Find.{IsFirstByte, is_byte}
use Rattle.wat_lex.specs.errors.Positions.{is_line_feed, line_and_column}

abbrev pub feed : ℕ → Bool
feed b = b == 10

-- ---- the parts between line feeds, of which there is one at least

pub record Parts (xs : List ℕ) : Type 0 where
  pub first : List ℕ
  pub more : List (List ℕ)
  pub cut : slice_split feed xs ≡ first ∷ more

pub parts : (xs : List ℕ) → Parts xs
parts [] = record { first = []; more = []; cut = refl }
parts (x ∷ xs) =
    elim (cases_Bool (feed x)) [
      | inl t ↦ record { first = []; more = slice_split feed xs; cut = slice_split-cons_yes feed x xs t }
      | inr f ↦
          let p = parts xs in
          record { first = x ∷ p.first; more = p.more; cut = slice_split-cons_no feed x xs f ∙ ap (onto_first x) p.cut }
    ]

-- ---- the first line

stripped_first : (x rest : List ℕ) → slice_get (lines_of_parts (x ∷ slice_split feed rest)) 0 ≡ Some (strip_carriage_return x)
stripped_first x rest = let p = parts rest in ap (λ ps. slice_get (lines_of_parts (x ∷ ps)) 0) p.cut

pub any_default : (xs : List ℕ) (k d : ℕ) → k < length xs → get_or xs k d ≡ get_or xs k 0
any_default [] k d l = absurd (omega (arith, l))
any_default (x ∷ xs) zero d l = refl
any_default (x ∷ xs) (suc k) d l = any_default xs k d (omega (arith, l))

none_feed : (xs : List ℕ) → ((k : ℕ) → k < length xs → feed (get_or xs k 0) ≡ false) → All (λ x. feed x ≡ false) xs
none_feed xs h = λ k d l. ap feed (any_default xs k d l) ∙ h k l

pub not_fed : (b : Bool) → (b ≡ true → ⊥) → b ≡ false
not_fed true h = absurd (h refl)
not_fed false h = refl

pub first_cut : (text : List ℕ) (end : ℕ) → IsFirstByte (is_byte 10) text (Some end) → strip_carriage_return (take end text) ≡ unwrap_or (slice_get (lines text) 0) []
first_cut text end h =
    let b = h.0 in
    let high = b.high in
    let front : All (λ x. feed x ≡ false) (take end text) = none_feed (take end text)
    (λ k l. let m : k < end = omega (arith, l, length-take-le end text (omega (arith, high))) in ap feed (get_or-take end text k 0 m) ∙ not_fed (feed (get_or text k 0)) (b.before k (omega arith) m)) in
    let whole : text ≡ take end text ++ get_or text end 0 ∷ drop (suc end) text = sym (take-append-drop end text) ∙ ap (λ x. take end text ++ x) (drop-cons text end 0 high) in
    let split : slice_split feed text ≡ take end text ∷ slice_split feed (drop (suc end) text) = ap (slice_split feed) whole ∙ slice_split_at feed (take end text) (get_or text end 0) (drop (suc end) text) front h.1 in
    sym (ap (λ ps. unwrap_or (slice_get (lines_of_parts ps) 0) []) split ∙ ap (λ o. unwrap_or o []) (stripped_first (take end text) (drop (suc end) text)))

one_line : (text : List ℕ) (b : Bool) → (b ≡ true → text ≡ []) → text ≡ unwrap_or (slice_get (if b then [] else text ∷ []) 0) []
one_line text true h = h refl
one_line text false h = refl

pub first_whole : (text : List ℕ) → IsFirstByte (is_byte 10) text None → text ≡ unwrap_or (slice_get (lines text) 0) []
first_whole text h =
    let none : All (λ x. feed x ≡ false) text = none_feed text (λ k l. not_fed (feed (get_or text k 0)) (h k (omega arith) l)) in
    one_line text (length text == 0) (λ e. nil_from_length text (eqb-true (length text) 0 e))
    ∙ sym (ap (λ ps. unwrap_or (slice_get (lines_of_parts ps) 0) []) (slice_split_none feed text none))

last_of : (text : List ℕ) (end : ℕ) → end ≤ length text → 0 < end → get_or (take end text) (length (take end text) - 1) 0 ≡ get_or text (end - 1) 0
last_of text end l some = ap (λ n. get_or (take end text) (n - 1) 0) (length-take-le end text l) ∙ get_or-take end text (end - 1) 0 (omega (arith, some))

pub strip_one : (text : List ℕ) (end : ℕ) → end ≤ length text → 0 < end → get_or text (end - 1) 0 ≡ 13 → take (end - 1) text ≡ strip_carriage_return (take end text)
strip_one text end l some e =
    let t = take end text in
    let less : end - 1 ≤ end = omega arith in
    let size : length t - 1 ≡ end - 1 = ap (λ n. n - 1) (length-take-le end text l) in
    sym (ap (λ b. if b then take (length t - 1) t else t) (eq-eqb _ 13 (last_of text end l some ∙ e)) ∙ ap (λ n. take n t) size ∙ take-take (end - 1) end text less)

pub strip_none : (text : List ℕ) (end : ℕ) → end ≤ length text → (0 < end → get_or text (end - 1) 0 ≢ 13) → take end text ≡ strip_carriage_return (take end text)
strip_none text zero l n = refl
strip_none text (suc m) l n =
    let t = take (suc m) text in
    sym (ap (λ b. if b then take (length t - 1) t else t) (ne_eqb _ 13 (λ e. n (omega arith) (sym (last_of text (suc m) l (omega arith)) ∙ e))))

-- ---- the lines after a line's start

-- nothing, or its last byte is a line feed
abbrev pub EndsLine : List ℕ → Type 0
EndsLine pre = (m : ℕ) → length pre ≡ suc m → feed (get_or pre m 0) ≡ true

after_feed : (xs : List ℕ) (n : ℕ) → slice_get (lines_of_parts ([] ∷ slice_split feed xs)) (suc n) ≡ slice_get (lines xs) n
after_feed xs n =
    let p = parts xs in
    ap (λ ps. slice_get (lines_of_parts ([] ∷ ps)) (suc n)) p.cut ∙ sym (ap (λ ps. slice_get (lines_of_parts ps) n) p.cut)

none_later : (b : Bool) (p : List ℕ) (n : ℕ) → slice_get (if b then [] else p ∷ []) (suc n) ≡ None
none_later true p n = refl
none_later false p n = refl

later_line : (x : ℕ) (ps : List (List ℕ)) (n : ℕ) → slice_get (lines_of_parts (onto_first x ps)) (suc n) ≡ slice_get (lines_of_parts ps) (suc n)
later_line x [] n = none_later (length (x ∷ []) == 0) (x ∷ []) n
later_line x (p ∷ []) n = none_later (length (x ∷ p) == 0) (x ∷ p) n ∙ sym (none_later (length p == 0) p n)
later_line x (p ∷ q ∷ more) n = refl

pub count_yes : (x : ℕ) (xs : List ℕ) → feed x ≡ true → count_by is_line_feed (x ∷ xs) ≡ suc (count_by is_line_feed xs)
count_yes x xs t = sum_by-cons (λ b. cond (is_line_feed b) 1 0) x xs ∙ ap (λ b. cond b 1 0 + count_by is_line_feed xs) t ∙ one-add (count_by is_line_feed xs)

pub count_no : (x : ℕ) (xs : List ℕ) → feed x ≡ false → count_by is_line_feed (x ∷ xs) ≡ count_by is_line_feed xs
count_no x xs f = sum_by-cons (λ b. cond (is_line_feed b) 1 0) x xs ∙ ap (λ b. cond b 1 0 + count_by is_line_feed xs) f ∙ zero-add (count_by is_line_feed xs)

rest_ends : (x y : ℕ) (ys : List ℕ) → EndsLine (x ∷ y ∷ ys) → EndsLine (y ∷ ys)
rest_ends x y ys h = λ m e. h (suc m) (ap suc e)

some_feed : (y : ℕ) (ys : List ℕ) → EndsLine (y ∷ ys) → 0 < count_by is_line_feed (y ∷ ys)
some_feed y [] h = omega (arith, count_yes y [] (h 0 refl))
some_feed y (z ∷ zs) h =
    let more = some_feed z zs (rest_ends y z zs h) in
    elim (cases_Bool (feed y)) [
      | inl t ↦ omega (arith, count_yes y (z ∷ zs) t)
      | inr f ↦ omega (arith, count_no y (z ∷ zs) f, more)
    ]

split_yes : (x : ℕ) (xs : List ℕ) (n : ℕ) → feed x ≡ true → slice_get (lines (x ∷ xs)) (suc n) ≡ slice_get (lines xs) n
split_yes x xs n t = ap (λ ps. slice_get (lines_of_parts ps) (suc n)) (slice_split-cons_yes feed x xs t) ∙ after_feed xs n

split_no : (x : ℕ) (xs : List ℕ) (n : ℕ) → feed x ≡ false → 0 < n → slice_get (lines (x ∷ xs)) n ≡ slice_get (lines xs) n
split_no x xs zero f l = absurd (omega (arith, l))
split_no x xs (suc n) f l = ap (λ ps. slice_get (lines_of_parts ps) (suc n)) (slice_split-cons_no feed x xs f) ∙ later_line x (slice_split feed xs) n

pub lines_after : (pre rest : List ℕ) → EndsLine pre → slice_get (lines (pre ++ rest)) (count_by is_line_feed pre) ≡ slice_get (lines rest) 0
lines_after [] rest h = refl
lines_after (x ∷ []) rest h = ap (slice_get (lines (x ∷ rest))) (count_yes x [] (h 0 refl)) ∙ split_yes x rest 0 (h 0 refl)
lines_after (x ∷ y ∷ ys) rest h =
    let ends = rest_ends x y ys h in
    let more = lines_after (y ∷ ys) rest ends in
    elim (cases_Bool (feed x)) [
      | inl t ↦ ap (slice_get (lines (x ∷ y ∷ ys ++ rest))) (count_yes x (y ∷ ys) t) ∙ split_yes x (y ∷ ys ++ rest) (count_by is_line_feed (y ∷ ys)) t ∙ more
      | inr f ↦ ap (slice_get (lines (x ∷ y ∷ ys ++ rest))) (count_no x (y ∷ ys) f) ∙ split_no x (y ∷ ys ++ rest) (count_by is_line_feed (y ∷ ys)) f (some_feed y ys ends) ∙ more
    ]

-- ---- where a line starts

abbrev pub since : List ℕ → ℕ
since s = suffix_len (λ b. not (is_line_feed b)) s

from_not : (b : Bool) → not b ≡ false → b ≡ true
from_not true e = refl
from_not false e = absurd (true≢false e)

to_not : (b : Bool) → not b ≡ true → b ≡ false
to_not true e = absurd (true≢false (sym e))
to_not false e = refl

-- the byte before the start is a line feed
feed_before : (s : List ℕ) (m : ℕ) → length s ≡ suc m + since s → feed (get_or s m 0) ≡ true
feed_before s m e =
    let q : ℕ → Bool = λ b. not (is_line_feed b) in
    let inside : since s < length (reverse s) = omega (arith, e, length-reverse s) in
    let stops : q (get_or (reverse s) (since s) 0) ≡ false = prefix_len_stops q (reverse s) 0 inside in
    let place : length s - 1 - since s ≡ m = omega (arith, e) in
    let here : get_or (reverse s) (since s) 0 ≡ get_or s m 0 = get_or-reverse s (since s) 0 (omega (arith, e)) ∙ ap (λ k. get_or s k 0) place in
    from_not (feed (get_or s m 0)) (ap q (sym here) ∙ stops)

-- no byte from the start on is one
none_since : (s : List ℕ) (k : ℕ) → k < length s → length s ≤ k + since s → feed (get_or s k 0) ≡ false
none_since s k l from =
    let q : ℕ → Bool = λ b. not (is_line_feed b) in
    let back = length s - 1 - k in
    let place : length s - 1 - back ≡ k = omega (arith, l) in
    let passes : q (get_or (reverse s) back 0) ≡ true = prefix_len_passes q (reverse s) back 0 (omega (arith, l, from)) in
    let here : get_or (reverse s) back 0 ≡ get_or s k 0 = get_or-reverse s back 0 (omega (arith, l)) ∙ ap (λ k. get_or s k 0) place in
    to_not (feed (get_or s k 0)) (ap q (sym here) ∙ passes)

count_none : (xs : List ℕ) → All (λ x. feed x ≡ false) xs → count_by is_line_feed xs ≡ 0
count_none [] h = refl
count_none (x ∷ xs) h = count_no x xs (h 0 0 (omega arith)) ∙ count_none xs (λ k d l. h (suc k) d (omega (arith, l)))

-- A text whose last line begins at the offset start.
module _ (s : List ℕ) (start : ℕ) (e : length s ≡ start + since s) where
  start_within : start ≤ length s
  start_within = omega (arith, e)

  pub start_ends : EndsLine (take start s)
  start_ends = λ m long.
      let size : start ≡ suc m = sym (length-take-le start s start_within) ∙ long in
      ap feed (get_or-take start s m 0 (omega (arith, size))) ∙ feed_before s m (e ∙ ap (λ n. n + since s) size)

  pub start_counts : count_by is_line_feed s ≡ count_by is_line_feed (take start s)
  start_counts =
      let size = length-drop start s in
      let none : count_by is_line_feed (drop start s) ≡ 0 = count_none (drop start s)
      (none_feed (drop start s) (λ k l. ap feed (get_or-drop start s k 0) ∙ none_since s (start + k) (omega (arith, l, size)) (omega (arith, e)))) in
      ap (count_by is_line_feed) (sym (take-append-drop start s)) ∙ sum_by-append (λ b. cond (is_line_feed b) 1 0) (take start s) (drop start s)
      ∙ omega (arith, none)

pub place_within : (text : List ℕ) (offset : ℕ) → offset ≤ length text → line_and_column text offset ≡ (count_by is_line_feed (take offset text), since (take offset text))
place_within text offset l = ap (λ b. if b then (count_by is_line_feed (take offset text), since (take offset text)) else (length (lines text), 0)) (le-leb offset (length text) l)

-- the line that a byte is in
module _ (text : List ℕ) (offset column : ℕ) (within : offset ≤ length text) (place : column ≡ (line_and_column text offset).1) where
  abbrev front : List ℕ
  front = take offset text

  there : line_and_column text offset ≡ (count_by is_line_feed front, since front)
  there = place_within text offset within

  column_is : column ≡ since front
  column_is = place ∙ ap (λ p. p.1) there

  size : length front ≡ offset
  size = length-take-le offset text within

  pub column_within : column ≤ offset
  column_within = omega (arith, column_is, size, suffix_len-le-length (λ b. not (is_line_feed b)) front)

  start_at : length front ≡ (offset - column) + since front
  start_at = omega (arith, column_is, size, column_within)

  same_front : take (offset - column) front ≡ take (offset - column) text
  same_front = let less : offset - column ≤ offset = omega arith in take-take (offset - column) offset text less

  boundary_from : (start : ℕ) → start ≡ offset - column → IsUtf8 text → IsCharBoundary text start
  boundary_from zero e u = IsCharBoundary-start text u
  boundary_from (suc m) e u =
      let below : m < offset = omega (arith, e) in
      let here : get_or text m 0 ≡ 10 = sym (get_or-take offset text m 0 below) ∙ eqb-true (get_or front m 0) 10 (feed_before front m (start_at ∙ ap (λ n. n + since front) (sym e))) in
      subst (IsCharBoundary text) (add-one m) (IsCharBoundary-after_ascii text m u (omega (arith, below, within)) (omega (arith, here)))

  pub start_boundary : IsUtf8 text → IsCharBoundary text (offset - column)
  start_boundary u = boundary_from (offset - column) refl u

  pub line_here : unwrap_or (slice_get (lines (drop (offset - column) text)) 0) [] ≡ unwrap_or (slice_get (lines text) (line_and_column text offset).0) []
  line_here =
      let start = offset - column in
      let ends : EndsLine (take start text) = subst EndsLine same_front (start_ends front start start_at) in
      let count : count_by is_line_feed (take start text) ≡ (line_and_column text offset).0 = sym (start_counts front start start_at ∙ ap (count_by is_line_feed) same_front) ∙ sym (ap (λ p. p.0) there) in
      ap (λ o. unwrap_or o []) (sym (lines_after (take start text) (drop start text) ends))
      ∙ ap (λ t. unwrap_or (slice_get (lines t) (count_by is_line_feed (take start text))) []) (take-append-drop start text)
      ∙ ap (λ n. unwrap_or (slice_get (lines text) n) []) count
