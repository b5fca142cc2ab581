-- The `Numeral` that `fast_float` scans is that of the definition, part by part.
use Rattle.std.proofs.Common.{◌≡◌, ℕ, zero, suc, ◌+◌, ◌-◌, ◌*◌, ◌^◌, Bool, true, false, cond, ◌&&◌, ◌||◌, ◌==◌, if◌then◌else◌, List, [], ◌∷◌, ◌++◌, length, get_or, take, drop, refl, sym, ap, ◌∙◌, inl, inr, arith, pow-add, eqb, to_bits}
use Rattle.std.specs.Prelude.{slice_index}
use Rattle.std.specs.Char.{is_ascii_digit}
use Rattle.std.specs.List.{slice_range}
use Rattle.std.specs.Str.Parse.{digits_value}
use Rattle.std.specs.Float.Numeral.{scan_numeral, nearest_float, digits_len, digits_end, exponent_start, has_exponent}
use Rattle.std.proofs.lemmas.Bool.{cases_Bool}
use Rattle.std.proofs.lemmas.List.{get_or-drop, drop-drop}
use borrow.Author.Tests.{eqb-true, eqb-false, ne_eqb}
use lib.Ieee.{Float, Format, inf, is_nan, round, units, odd, prec, low}
use lib.Ieee.Fits.{round_is}
use Rattle.wat_lex.specs.grammar.Numbers.{is_exponent_letter}
use Rattle.wat_floats.specs.Literals.{digits, after_digits, fraction, after_fraction, exponent, up_power, down_power, numerator, denominator, nearest}

-- ---- The exponent, at `b`, and in the text `s` from `b` on

abbrev is_letter : List ℕ → Bool
is_letter s = slice_index s 0 == 101 || slice_index s 0 == 69

abbrev has_sign : List ℕ → Bool
has_sign s = slice_index s 1 == 45 || slice_index s 1 == 43

abbrev start : List ℕ → ℕ
start s = if has_sign s then 2 else 1

abbrev has : List ℕ → Bool
has s = is_letter s && is_ascii_digit (slice_index s (start s))

abbrev written : List ℕ → List ℕ
written s = if has s then take (digits_len (drop (start s) s)) (drop (start s) s) else []

abbrev negative : List ℕ → Bool
negative s = has s && slice_index s 1 == 45

module _ (t : List ℕ) (b : ℕ) where
  at_zero : slice_index t b ≡ slice_index (drop b t) 0
  at_zero = sym (get_or-drop b t 0 0 ∙ ap (λ i. get_or t i 0) {x = b + 0} {y = b} (omega arith))

  at_one : slice_index t (b + 1) ≡ slice_index (drop b t) 1
  at_one = sym (get_or-drop b t 1 0)

  start_is : exponent_start t b ≡ b + start (drop b t)
  start_is = by (has_sign (drop b t)) ((λ i. at_one i == 45 || at_one i == 43))
    where
      by : (x : Bool) → (slice_index t (b + 1) == 45 || slice_index t (b + 1) == 43) ≡ x → exponent_start t b ≡ b + (if x then 2 else 1)
      by true e = rw e refl
      by false e = rw e refl

  has_is : has_exponent t b ≡ has (drop b t)
  has_is =
      let e : slice_index t (exponent_start t b) ≡ slice_index (drop b t) (start (drop b t)) = ap (λ i. slice_index t i) start_is ∙ sym (get_or-drop b t (start (drop b t)) 0) in
      λ i. (at_zero i == 101 || at_zero i == 69) && is_ascii_digit (e i)

  written_is : (if has_exponent t b then slice_range t (exponent_start t b) (digits_end t (exponent_start t b)) else []) ≡ written (drop b t)
  written_is =
      let d : drop (exponent_start t b) t ≡ drop (start (drop b t)) (drop b t) = ap (λ i. drop i t) start_is ∙ sym (drop-drop (start (drop b t)) b t) in
      let n = exponent_start t b in
      let r : slice_range t n (digits_end t n) ≡ take (digits_len (drop n t)) (drop n t) = ap (λ k. take k (drop n t)) {x = n + digits_len (drop n t) - n} {y = digits_len (drop n t)} (omega arith) in
      let e : slice_range t n (digits_end t n) ≡ take (digits_len (drop (start (drop b t)) (drop b t))) (drop (start (drop b t)) (drop b t)) = r ∙ ap (λ x. take (digits_len x) x) d in
      λ i. if has_is i then e i else []

  negative_is : (has_exponent t b && slice_index t (b + 1) == 45) ≡ negative (drop b t)
  negative_is = λ i. has_is i && at_one i == 45

-- The digits at the start of a text have the same value whether or not the scan first tests for a digit.
few : (ds : List ℕ) → digits_value 10 (if is_ascii_digit (slice_index ds 0) then take (digits_len ds) ds else []) ≡ digits_value 10 (digits false ds)
few [] = refl
few (d ∷ ds) = elim (cases_Bool (is_ascii_digit d)) [ inl e ↦ rw e refl | inr e ↦ rw e refl ]

-- The exponent of the power that multiplies, and of the one that divides.
abbrev ups : List ℕ → ℕ
ups s = if negative s then 0 else digits_value 10 (written s)

abbrev downs : List ℕ → ℕ
downs s = if negative s then digits_value 10 (written s) else 0

up_by_sign : (n : Bool) (ds : List ℕ)
    → (if is_ascii_digit (slice_index ds 0) && n then 0 else digits_value 10 (if is_ascii_digit (slice_index ds 0) then take (digits_len ds) ds else [])) ≡ (if n then 0 else digits_value 10 (digits false ds))
up_by_sign n ds = elim (cases_Bool (is_ascii_digit (slice_index ds 0))) [ inl e ↦ rw e refl | inr e ↦ rw e (none n (rw e at (few ds))) ]
  where
    none : (n : Bool) → 0 ≡ digits_value 10 (digits false ds) → 0 ≡ (if n then 0 else digits_value 10 (digits false ds))
    none true z = refl
    none false z = z

down_by_sign : (n : Bool) (ds : List ℕ)
    → (if is_ascii_digit (slice_index ds 0) && n then digits_value 10 (if is_ascii_digit (slice_index ds 0) then take (digits_len ds) ds else []) else 0) ≡ (if n then digits_value 10 (digits false ds) else 0)
down_by_sign n ds = elim (cases_Bool (is_ascii_digit (slice_index ds 0))) [ inl e ↦ rw e refl | inr e ↦ rw e (none n (rw e at (few ds))) ]
  where
    none : (n : Bool) → 0 ≡ digits_value 10 (digits false ds) → 0 ≡ (if n then digits_value 10 (digits false ds) else 0)
    none true z = z
    none false z = refl

turned : (a b : ℕ) → eqb a b ≡ eqb b a
turned a b = elim (cases_Bool (eqb a b)) [
  | inl e ↦ rw (eqb-true a b e) refl
  | inr e ↦ e ∙ sym (ne_eqb b a (λ x. eqb-false a b e (sym x)))
]

letter_is : (c : ℕ) → is_exponent_letter false c ≡ (c == 101 || c == 69)
letter_is c = rw (turned 101 c, turned 69 c) (by (eqb c 101) (eqb c 69))
  where
    by : (a b : Bool) → (a || (b || false)) ≡ (a || b)
    by true b = refl
    by false true = refl
    by false false = refl

module _ (x : ℕ) (letter : (x == 101 || x == 69) ≡ true) where
  up_after : (s : List ℕ) → ups (x ∷ s) ≡ up_power s
  up_after [] = rw letter refl
  up_after (y ∷ s) =
      elim (cases_Bool (y == 45)) [
        | inl m ↦ rw (letter, eqb-true y 45 m) (up_by_sign true s)
        | inr m ↦ elim (cases_Bool (y == 43)) [
          | inl p ↦ rw (letter, eqb-true y 43 p) (up_by_sign false s)
          | inr p ↦ rw (letter, m, p) (up_by_sign false (y ∷ s))
        ]
      ]

  down_after : (s : List ℕ) → downs (x ∷ s) ≡ down_power s
  down_after [] = rw letter refl
  down_after (y ∷ s) =
      elim (cases_Bool (y == 45)) [
        | inl m ↦ rw (letter, eqb-true y 45 m) (down_by_sign true s)
        | inr m ↦ elim (cases_Bool (y == 43)) [
          | inl p ↦ rw (letter, eqb-true y 43 p) (down_by_sign false s)
          | inr p ↦ rw (letter, m, p) (down_by_sign false (y ∷ s))
        ]
      ]

raised_is : (s : List ℕ) → ups s ≡ up_power (exponent false s)
raised_is [] = refl
raised_is (x ∷ s) = elim (cases_Bool (x == 101 || x == 69)) [ inl e ↦ rw (letter_is x ∙ e) (up_after x e s) | inr e ↦ rw (letter_is x ∙ e) (rw e refl) ]

lowered_is : (s : List ℕ) → downs s ≡ down_power (exponent false s)
lowered_is [] = refl
lowered_is (x ∷ s) = elim (cases_Bool (x == 101 || x == 69)) [ inl e ↦ rw (letter_is x ∙ e) (down_after x e s) | inr e ↦ rw (letter_is x ∙ e) (rw e refl) ]

-- ---- The parts before the exponent

fraction_is : (r : List ℕ) → (if slice_index r 0 == 46 then take (digits_len (drop 1 r)) (drop 1 r) else []) ≡ fraction false r
fraction_is [] = refl
fraction_is (c ∷ r) = refl

after_is : (r : List ℕ) → (if slice_index r 0 == 46 then drop (digits_len (drop 1 r)) (drop 1 r) else r) ≡ after_fraction false r
after_is [] = refl
after_is (c ∷ r) = refl

module _ (t : List ℕ) where
  abbrev a : ℕ
  a = digits_end t 0

  abbrev point : Bool
  point = slice_index t a == 46

  abbrev b : ℕ
  b = if point then digits_end t (a + 1) else a

  a_is : a ≡ digits_len t
  a_is = omega arith

  whole_at : slice_range t 0 a ≡ digits false t
  whole_at = ap (λ n. take n t) {x = a - 0} {y = digits_len t} (omega arith)

  rest_at : drop a t ≡ after_digits false t
  rest_at = ap (λ n. drop n t) a_is

  point_at : point ≡ (slice_index (drop a t) 0 == 46)
  point_at = λ i. at_zero t a i == 46

  next_at : drop (a + 1) t ≡ drop 1 (drop a t)
  next_at = sym (drop-drop 1 a t)

  fraction_at : (if point then slice_range t (a + 1) b else []) ≡ fraction false (drop a t)
  fraction_at = by point refl ∙ ap (λ p. if p then take (digits_len (drop 1 (drop a t))) (drop 1 (drop a t)) else []) point_at ∙ fraction_is (drop a t)
    where
      by : (p : Bool) → point ≡ p → (if p then slice_range t (a + 1) (if p then digits_end t (a + 1) else a) else []) ≡ (if p then take (digits_len (drop 1 (drop a t))) (drop 1 (drop a t)) else [])
      by true e = ap (λ n. take n (drop (a + 1) t)) {x = digits_end t (a + 1) - (a + 1)} {y = digits_len (drop (a + 1) t)} (omega arith) ∙ ap (λ r. take (digits_len r) r) next_at
      by false e = refl

  after_at : drop b t ≡ after_fraction false (drop a t)
  after_at = by point ∙ ap (λ p. if p then drop (digits_len (drop 1 (drop a t))) (drop 1 (drop a t)) else drop a t) point_at ∙ after_is (drop a t)
    where
      by : (p : Bool) → drop (if p then digits_end t (a + 1) else a) t ≡ (if p then drop (digits_len (drop 1 (drop a t))) (drop 1 (drop a t)) else drop a t)
      by true = sym (drop-drop (digits_len (drop (a + 1) t)) (a + 1) t) ∙ ap (λ r. drop (digits_len r) r) next_at
      by false = refl

  number_at : (f : Format) → nearest_float f false (scan_numeral t) ≡ round f false (numerator false t) (denominator false t)
  unfolding scan_numeral numerator denominator
  number_at f =
      let w : slice_range t 0 a ≡ digits false t = whole_at in
      let r : drop a t ≡ after_digits false t = rest_at in
      let fr : (if point then slice_range t (a + 1) b else []) ≡ fraction false (after_digits false t) = fraction_at ∙ ap (fraction false) r in
      let s : drop b t ≡ after_fraction false (after_digits false t) = after_at ∙ ap (after_fraction false) r in
      let u : (if has_exponent t b && slice_index t (b + 1) == 45 then 0 else digits_value 10 (if has_exponent t b then slice_range t (exponent_start t b) (digits_end t (exponent_start t b)) else []))
      ≡ up_power (exponent false (after_fraction false (after_digits false t))) =
      (λ i. if negative_is t b i then 0 else digits_value 10 (written_is t b i)) ∙ raised_is (drop b t) ∙ ap (λ x. up_power (exponent false x)) s in
      let d : (if has_exponent t b && slice_index t (b + 1) == 45 then digits_value 10 (if has_exponent t b then slice_range t (exponent_start t b) (digits_end t (exponent_start t b)) else []) else 0)
      ≡ down_power (exponent false (after_fraction false (after_digits false t))) =
      (λ i. if negative_is t b i then digits_value 10 (written_is t b i) else 0) ∙ lowered_is (drop b t) ∙ ap (λ x. down_power (exponent false x)) s in
      (λ i. round f false (digits_value 10 (w i ++ fr i) * 10 ^ u i) (10 ^ (length (fr i) + d i)))
      ∙ ap (λ x. round f false (numerator false t) x) (pow-add 10 _ _)

pub nearest_is : (f : Format) (t : List ℕ) → to_bits f (nearest_float f false (scan_numeral t)) ≡ nearest f false t
unfolding nearest
nearest_is f t = ap (to_bits f) (number_at t f)

-- A rounded number is not a NaN.
cond_number : (b : Bool) (x y : Float) → is_nan x ≡ false → is_nan y ≡ false → is_nan (cond b x y) ≡ false
cond_number true x y p q = p
cond_number false x y p q = q

odd_number : (d : ℕ) (s : Bool) (q k l : ℕ) → is_nan (odd d s q k l) ≡ false
unfolding odd is_nan
odd_number d s zero k l = refl
odd_number d s (suc q) k l = refl

inf_number : (s : Bool) → is_nan (inf s) ≡ false
unfolding is_nan
inf_number s = refl

units_number : (f : Format) (s : Bool) (q k : ℕ) → is_nan (units f s q k) ≡ false
unfolding units
units_number f s q k = cond_number _ _ _ (odd_number (suc (prec f)) s q k (low f)) (inf_number s)

pub is_number : (f : Format) (s : Bool) (num den : ℕ) → is_nan (round f s num den) ≡ false
is_number f s num den = ap is_nan (round_is f s num den) ∙ units_number f s _ _
