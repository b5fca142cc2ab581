-- The parts of a floating-point number's lexeme, by the bytes before its dot and its exponent letter.
use Rattle.std.proofs.Common.{◌≡◌, ◌≢◌, ◌<◌, ◌≤◌, ◌+◌, ◌-◌, ℕ, List, [], ◌∷◌, ◌++◌, length, take, drop, get_or, bit_or, refl, ap, sym, ◌∙◌, subst, arith, inl, inr, Bool, true, false, cond, length-append}
use Rattle.std.specs.Prelude.{◌==◌, ◌||◌, not, Option, Some, None}
use Rattle.std.specs.List.{prefix_len}
use Rattle.std.proofs.lemmas.Bool.{cases_Bool, eqb-true, ne_eqb, or_from, or_cases}
use Rattle.std.proofs.lemmas.List.{drop_at, take_rest, length-drop}
use Rattle.wat_lex.specs.grammar.Numbers.{Digits, last, next, parted, IntegralPart, decimal, hexadecimal, Fraction, bare, filled, Exponent, exponent, Tail, fraction, power, both, Decimals, decimals, is_digit, is_exponent_letter, unsigned}
use Rattle.wat_lex.specs.values.NumberValues.{after_prefix, Point, no_point, bare as point_bare, filled as point_filled, Power, no_power, present}
use Rattle.wat_c.specs.FloatSpans.{fraction_len, without_plus}
use Rattle.wat_c.specs.inside.SplitFloats.{is_of_digits, SplitsFraction}

-- ---- bytes of digits

-- A digit is neither a dot nor the letter of an exponent.
digit_dot : (hex : Bool) (c : ℕ) → is_digit hex c ≡ true → (c == 46) ≡ false
digit_dot true c h = ne_eqb c 46 (λ e. let k = subst (λ x. is_digit true x ≡ true) e h in cc)
digit_dot false c h = ne_eqb c 46 (λ e. let k = subst (λ x. is_digit false x ≡ true) e h in cc)

digit_letter : (hex : Bool) (c : ℕ) → is_digit hex c ≡ true → is_exponent_letter hex c ≡ true → ⊥
digit_letter true c d h = elim (or_cases (112 == c) _ h) [
  | inl e ↦ (let k = subst (λ x. is_digit true x ≡ true) (sym (eqb-true 112 c e)) d in cc)
  | inr r ↦ elim (or_cases (80 == c) _ r) [ inl e ↦ (let k = subst (λ x. is_digit true x ≡ true) (sym (eqb-true 80 c e)) d in cc) | inr q ↦ cc ]
]
digit_letter false c d h = elim (or_cases (101 == c) _ h) [
  | inl e ↦ (let k = subst (λ x. is_digit false x ≡ true) (sym (eqb-true 101 c e)) d in cc)
  | inr r ↦ elim (or_cases (69 == c) _ r) [ inl e ↦ (let k = subst (λ x. is_digit false x ≡ true) (sym (eqb-true 69 c e)) d in cc) | inr q ↦ cc ]
]

digit_of : (hex : Bool) (c : ℕ) → is_digit hex c ≡ true → is_of_digits hex c ≡ true
digit_of hex c h = elim (cases_Bool (is_exponent_letter hex c)) [
  | inl e ↦ absurd (digit_letter hex c h e)
  | inr e ↦ ap not (or_from (c == 46) (is_exponent_letter hex c) (digit_dot hex c h) e)
]

underscore_of : (hex : Bool) → is_of_digits hex 95 ≡ true
underscore_of true = refl
underscore_of false = refl

dot_of : (hex : Bool) → is_of_digits hex 46 ≡ false
dot_of hex = refl

letter_of : (hex : Bool) (c : ℕ) → is_exponent_letter hex c ≡ true → is_of_digits hex c ≡ false
letter_of hex c h = by (c == 46) (is_exponent_letter hex c) h
  where
    by : (a b : Bool) → b ≡ true → not (a || b) ≡ false
    by true b e = refl
    by false b e = ap not e

-- The test of a byte by the bit of lowercase letters.
pub of_digits_by : (hex : Bool) (c letter : ℕ) → c ≢ 46 → (bit_or c 32 == letter) ≡ is_exponent_letter hex c → not (bit_or c 32 == letter) ≡ is_of_digits hex c
of_digits_by hex c letter n e = ap not (e ∙ sym (ap (λ b. b || is_exponent_letter hex c) (ne_eqb c 46 n)))

len_more : (p : ℕ → Bool) (c : ℕ) (s : List ℕ) → p c ≡ true → prefix_len p (c ∷ s) ≡ 1 + prefix_len p s
len_more p c s h = ap (λ b. cond b (1 + prefix_len p s) 0) h

len_none : (p : ℕ → Bool) (c : ℕ) (s : List ℕ) → p c ≡ false → prefix_len p (c ∷ s) ≡ 0
len_none p c s h = ap (λ b. cond b (1 + prefix_len p s) 0) h

-- `Stops hex r`: no byte of digits begins `r`.
abbrev Stops : Bool → List ℕ → Type 0
Stops hex r = prefix_len (is_of_digits hex) r ≡ 0

exponent_stops : (hex : Bool) (s : List ℕ) → Exponent hex s → Stops hex s
exponent_stops hex s (exponent {c = c} {t = t} h k) = len_none (is_of_digits hex) c t (letter_of hex c h)

fraction_stops : (hex : Bool) (s r : List ℕ) → Fraction hex s r → Stops hex s
fraction_stops hex s r bare = len_none (is_of_digits hex) 46 r (dot_of hex)
fraction_stops hex s r (filled {t = t} h) = len_none (is_of_digits hex) 46 t (dot_of hex)

tail_stops : (hex : Bool) (s : List ℕ) → Tail hex s → Stops hex s
tail_stops hex s (fraction h) = fraction_stops hex s [] h
tail_stops hex s (power h) = exponent_stops hex s h
tail_stops hex s (both {t = t} h k) = fraction_stops hex s t h

-- Digits before a stop are all bytes of digits.
record Cut (hex : Bool) (s r : List ℕ) : Type 0 where
  digits : List ℕ
  cut : s ≡ digits ++ r
  are : Digits hex digits []
  len : prefix_len (is_of_digits hex) s ≡ length digits

cut_digits : (hex : Bool) (s r : List ℕ) → Stops hex r → Digits hex s r → Cut hex s r
cut_digits hex s r z (last {d = d} h) =
    record { digits = d ∷ []; cut = refl; are = last h; len = omega (arith, len_more (is_of_digits hex) d r (digit_of hex d h), z) }
cut_digits hex s r z (next {d = d} {t = t} h k) =
    let c = cut_digits hex t r z k in
    record { digits = d ∷ c.digits; cut = ap (λ x. d ∷ x) c.cut; are = next h c.are; len = omega (arith, len_more (is_of_digits hex) d t (digit_of hex d h), c.len) }
cut_digits hex s r z (parted {d = d} {t = t} h k) =
    let c = cut_digits hex t r z k in
    record {
      digits = d ∷ 95 ∷ c.digits;
      cut = ap (λ x. d ∷ 95 ∷ x) c.cut;
      are = parted h c.are;
      len = omega (arith, len_more (is_of_digits hex) d (95 ∷ t) (digit_of hex d h), len_more (is_of_digits hex) 95 t (underscore_of hex), c.len);
    }

digits_some : (hex : Bool) (s r : List ℕ) → Digits hex s r → 0 < length s
digits_some hex s r (last h) = omega arith
digits_some hex s r (next h k) = omega arith
digits_some hex s r (parted h k) = omega arith

-- ---- the integral part

cut_integral : (hex : Bool) (s r : List ℕ) → Stops hex r → IntegralPart hex s r → (d : List ℕ) × (s ≡ d ++ r) × IntegralPart hex d [] × (prefix_len (is_of_digits hex) (after_prefix hex s) ≡ length (after_prefix hex d))
cut_integral hex s r z (decimal h) = let c = cut_digits false s r z h in (c.digits, c.cut, decimal c.are, c.len)
cut_integral hex s r z (hexadecimal {t = t} h) = let c = cut_digits true t r z h in (48 ∷ 120 ∷ c.digits, ap (λ x. 48 ∷ 120 ∷ x) c.cut, hexadecimal c.are, c.len)

digits_unsigned : (hex : Bool) (c : ℕ) (t r : List ℕ) → Digits hex (c ∷ t) r → (c == 43 || c == 45) ≡ false
digits_unsigned hex c t r h = by hex (first hex c t r h)
  where
    first : (hex : Bool) (c : ℕ) (t r : List ℕ) → Digits hex (c ∷ t) r → is_digit hex c ≡ true
    first hex c t r (last h) = h
    first hex c t r (next h k) = h
    first hex c t r (parted h k) = h

    by : (hex : Bool) → is_digit hex c ≡ true → (c == 43 || c == 45) ≡ false
    by true h =
        or_from (c == 43) (c == 45) (ne_eqb c 43 (λ e. let k = subst (λ x. is_digit true x ≡ true) e h in cc)) (ne_eqb c 45 (λ e. let k = subst (λ x. is_digit true x ≡ true) e h in cc))
    by false h =
        or_from (c == 43) (c == 45) (ne_eqb c 43 (λ e. let k = subst (λ x. is_digit false x ≡ true) e h in cc)) (ne_eqb c 45 (λ e. let k = subst (λ x. is_digit false x ≡ true) e h in cc))

integral_unsigned : (hex : Bool) (s r : List ℕ) → IntegralPart hex s r → unsigned s ≡ s
integral_unsigned hex [] r h = refl
integral_unsigned hex (c ∷ t) r (decimal h) = ap (λ b. cond b t (c ∷ t)) (digits_unsigned false c t r h)
integral_unsigned hex (c ∷ t) r (hexadecimal h) = refl

integral_none : (hex : Bool) (r : List ℕ) → IntegralPart hex [] r → ⊥
integral_none hex r (decimal h) = elim h [ ]

-- `Split hex w n`: the lexeme is an integral part of `n` bytes of digits, and what follows it.
pub record Split (hex : Bool) (w : List ℕ) (n : ℕ) : Type 0 where
  pub leading : List ℕ
  pub tail : List ℕ
  pub cut : w ≡ leading ++ tail
  pub integral : IntegralPart hex (unsigned leading) []
  pub is : Tail hex tail
  pub len : n ≡ length (after_prefix hex (unsigned leading))
  pub rest : drop n (after_prefix hex (unsigned w)) ≡ tail
  pub some : 0 < n
  pub fits : n ≤ length (after_prefix hex (unsigned w))
  pub room : n + length tail ≤ length w

cut_word : (hex : Bool) (w r : List ℕ) → Stops hex r → IntegralPart hex (unsigned w) r
    → (d : List ℕ) × (w ≡ d ++ r) × IntegralPart hex (unsigned d) [] × (prefix_len (is_of_digits hex) (after_prefix hex (unsigned w)) ≡ length (after_prefix hex (unsigned d)))
cut_word hex [] r z h = absurd (integral_none hex r h)
cut_word hex (c ∷ t) r z h = by (c == 43 || c == 45) refl h
  where
    by : (b : Bool) → (c == 43 || c == 45) ≡ b → IntegralPart hex (cond b t (c ∷ t)) r
        → (d : List ℕ) × (c ∷ t ≡ d ++ r) × IntegralPart hex (unsigned d) [] × (prefix_len (is_of_digits hex) (after_prefix hex (unsigned (c ∷ t))) ≡ length (after_prefix hex (unsigned d)))
    by true e h =
        let p = cut_integral hex t r z h in
        let plain : unsigned (c ∷ p.0) ≡ p.0 = ap (λ b. cond b p.0 (c ∷ p.0)) e in
        let whole : unsigned (c ∷ t) ≡ t = ap (λ b. cond b t (c ∷ t)) e in (
          c ∷ p.0,
          ap (λ x. c ∷ x) p.1,
          subst (λ x. IntegralPart hex x []) (sym plain) p.2,
          ap (λ x. prefix_len (is_of_digits hex) (after_prefix hex x)) whole ∙ p.3 ∙ ap (λ x. length (after_prefix hex x)) (sym plain),
        )
    by false e h =
        let p = cut_integral hex (c ∷ t) r z h in
        let plain : unsigned p.0 ≡ p.0 = integral_unsigned hex p.0 [] p.2 in
        let whole : unsigned (c ∷ t) ≡ c ∷ t = ap (λ b. cond b t (c ∷ t)) e in (
          p.0,
          p.1,
          subst (λ x. IntegralPart hex x []) (sym plain) p.2,
          ap (λ x. prefix_len (is_of_digits hex) (after_prefix hex x)) whole ∙ p.3 ∙ ap (λ x. length (after_prefix hex x)) (sym plain),
        )

unsigned_append : (hex : Bool) (s r : List ℕ) → IntegralPart hex (unsigned s) [] → unsigned (s ++ r) ≡ unsigned s ++ r
unsigned_append hex [] r h = absurd (integral_none hex [] h)
unsigned_append hex (c ∷ t) r h = by (c == 43 || c == 45)
  where
    by : (b : Bool) → cond b (t ++ r) (c ∷ t ++ r) ≡ cond b t (c ∷ t) ++ r
    by true = refl
    by false = refl

prefix_append : (hex : Bool) (s r : List ℕ) → IntegralPart hex s [] → after_prefix hex (s ++ r) ≡ after_prefix hex s ++ r
prefix_append hex s r (decimal h) = refl
prefix_append hex s r (hexadecimal h) = refl

integral_some : (hex : Bool) (s : List ℕ) → IntegralPart hex s [] → 0 < length (after_prefix hex s)
integral_some hex s (decimal h) = digits_some false s [] h
integral_some hex s (hexadecimal {t = t} h) = digits_some true t [] h

unsigned_len : (w : List ℕ) → length (unsigned w) ≤ length w
unsigned_len [] = omega arith
unsigned_len (c ∷ t) = by (c == 43 || c == 45)
  where
    by : (b : Bool) → length (cond b t (c ∷ t)) ≤ length (c ∷ t)
    by true = omega arith
    by false = omega arith

prefix_len_of : (hex : Bool) (s : List ℕ) → length (after_prefix hex s) ≤ length s
prefix_len_of true s = omega (arith, length-drop 2 s)
prefix_len_of false s = omega arith

bare_len : (hex : Bool) (w : List ℕ) → length (after_prefix hex (unsigned w)) ≤ length w
bare_len hex w = omega (arith, prefix_len_of hex (unsigned w), unsigned_len w)

pub split : (hex : Bool) (w : List ℕ) (n : ℕ) → Decimals hex (unsigned w) → n ≡ prefix_len (is_of_digits hex) (after_prefix hex (unsigned w)) → Split hex w n
split hex w n h e = by (unsigned w) refl h
  where
    by : (s : List ℕ) → unsigned w ≡ s → Decimals hex s → Split hex w n
    by s f (decimals {t = t} a k) =
        let p = cut_word hex w t (tail_stops hex t k) (subst (λ x. IntegralPart hex x t) (sym f) a) in
        let len : n ≡ length (after_prefix hex (unsigned p.0)) = e ∙ p.3 in
        let whole : after_prefix hex (unsigned w) ≡ after_prefix hex (unsigned p.0) ++ t =
        ap (λ x. after_prefix hex (unsigned x)) p.1 ∙ ap (after_prefix hex) (unsigned_append hex p.0 t p.2) ∙ prefix_append hex (unsigned p.0) t p.2 in
        let some = integral_some hex (unsigned p.0) p.2 in
        record {
          leading = p.0;
          tail = t;
          cut = p.1;
          integral = p.2;
          is = k;
          len = len;
          rest = ap (drop n) whole ∙ drop_at (after_prefix hex (unsigned p.0)) t n (sym len);
          some = omega (arith, len, some);
          fits = omega (arith, len, ap length whole, length-append (after_prefix hex (unsigned p.0)) t);
          room = omega (arith, len, ap length whole, length-append (after_prefix hex (unsigned p.0)) t, bare_len hex w);
        }

pub split_of : (hex : Bool) (w d : List ℕ) (n : ℕ) → Decimals hex (unsigned w) → d ≡ after_prefix hex (unsigned w) → n ≡ prefix_len (is_of_digits hex) d → Split hex w n
split_of hex w d n h b e = split hex w n h (e ∙ ap (prefix_len (is_of_digits hex)) b)

pub tail_of : (hex : Bool) (w d : List ℕ) (n : ℕ) (s : Split hex w n) → d ≡ after_prefix hex (unsigned w) → take (length d - n) (drop n d) ≡ s.tail
tail_of hex w d n s b = take_rest d n ∙ ap (drop n) b ∙ s.rest

-- A hexadecimal number has its `0x`.
pub prefixed : (hex : Bool) (w s : List ℕ) → s ≡ unsigned w → Decimals hex (unsigned w) → hex ≡ true → 2 ≤ length s
prefixed hex w s e h f = subst (λ x. 2 ≤ length x) (sym e) (by (unsigned w) (subst (λ x. Decimals x (unsigned w)) f h))
  where
    by : (s : List ℕ) → Decimals true s → 2 ≤ length s
    by s (decimals (hexadecimal h) k) = omega arith

-- ---- the fraction and the exponent

exponent_power : (hex : Bool) (s : List ℕ) → Exponent hex s → (e : Option (List ℕ)) × Power hex s e
exponent_power hex s (exponent {t = t} h k) = (Some t, present h k)

dot_power : (hex : Bool) (t : List ℕ) → Exponent hex (46 ∷ t) → ⊥
dot_power true t (exponent h k) = cc
dot_power false t (exponent h k) = cc

-- A fraction without digits, and one with digits.
bare_is : (hex : Bool) (t : List ℕ) (n : ℕ) → n ≡ prefix_len (is_of_digits hex) t → Stops hex t → (x : Option (List ℕ)) → Power hex t x → SplitsFraction hex (46 ∷ t) n (drop n t)
bare_is hex t n e z x p =
    let none : n ≡ 0 = e ∙ z in
    let same : drop n t ≡ t = ap (λ m. drop m t) none in
    record { fraction = None; exponent = x; point = subst (Point hex (46 ∷ t) None) (sym same) point_bare; rest = subst (λ r. Power hex r x) (sym same) p; count = none }

filled_is : (hex : Bool) (t : List ℕ) (n : ℕ) → n ≡ prefix_len (is_of_digits hex) t → (r : List ℕ) → Stops hex r → Digits hex t r → (x : Option (List ℕ)) → Power hex r x
    → SplitsFraction hex (46 ∷ t) n (drop n t)
filled_is hex t n e r z d x p =
    let c = cut_digits hex t r z d in
    let len : n ≡ length c.digits = e ∙ c.len in
    let same : drop n t ≡ r = ap (drop n) c.cut ∙ drop_at c.digits r n (sym len) in
    record {
      fraction = Some c.digits;
      exponent = x;
      point = subst (Point hex (46 ∷ t) (Some c.digits)) (sym same) (point_filled c.cut c.are);
      rest = subst (λ y. Power hex y x) (sym same) p;
      count = len;
    }

-- A text that begins with a dot.
pub after_dot : (hex : Bool) (t : List ℕ) (n : ℕ) → n ≡ prefix_len (is_of_digits hex) t → Tail hex (46 ∷ t) → SplitsFraction hex (46 ∷ t) n (drop n t)
after_dot hex t n e (fraction bare) = bare_is hex t n e refl None no_power
after_dot hex t n e (fraction (filled d)) = filled_is hex t n e [] refl d None no_power
after_dot hex t n e (power k) = absurd (dot_power hex t k)
after_dot hex t n e (both bare k) = let p = exponent_power hex t k in bare_is hex t n e (exponent_stops hex t k) p.0 p.1
after_dot hex t n e (both (filled {r = r} d) k) = let p = exponent_power hex r k in filled_is hex t n e r (exponent_stops hex r k) d p.0 p.1

-- A text that begins with another character.
pub no_dot : (hex : Bool) (s : List ℕ) → ((t : List ℕ) → s ≡ 46 ∷ t → ⊥) → Tail hex s → SplitsFraction hex s 0 s
no_dot hex s n (fraction h) = absurd (dotted hex s [] n h)
  where
    dotted : (hex : Bool) (s r : List ℕ) → ((t : List ℕ) → s ≡ 46 ∷ t → ⊥) → Fraction hex s r → ⊥
    dotted hex s r n bare = n _ refl
    dotted hex s r n (filled h) = n _ refl
no_dot hex s n (power h) =
    let p = exponent_power hex s h in
    record { fraction = None; exponent = p.0; point = no_point; rest = p.1; count = refl }
no_dot hex s n (both {t = r} h k) = absurd (dotted hex s r n h)
  where
    dotted : (hex : Bool) (s r : List ℕ) → ((t : List ℕ) → s ≡ 46 ∷ t → ⊥) → Fraction hex s r → ⊥
    dotted hex s r n bare = n _ refl
    dotted hex s r n (filled h) = n _ refl

-- The fraction's length, and what follows it.
pub fraction_fits : (hex : Bool) (s : List ℕ) (n : ℕ) (r : List ℕ) → SplitsFraction hex s n r → n + length r ≤ length s
fraction_fits hex s n r h = by s r h.fraction h.point h.count
  where
    by : (s r : List ℕ) (f : Option (List ℕ)) → Point hex s f r → n ≡ fraction_len f → n + length r ≤ length s
    by s r None no_point e = omega (arith, e)
    by s r None point_bare e = omega (arith, e)
    by s r (Some d) (point_filled {t = t} c k) e = omega (arith, e, ap length c, length-append d r)

-- An exponent without its letter and a `+` is not longer.
pub exponent_fits : (r : List ℕ) → length (without_plus (drop 1 r)) ≤ length r
exponent_fits [] = omega arith
exponent_fits (c ∷ []) = omega arith
exponent_fits (c ∷ d ∷ t) = by (d == 43)
  where
    by : (b : Bool) → length (cond b t (d ∷ t)) ≤ length (c ∷ d ∷ t)
    by true = omega arith
    by false = omega arith

-- A text that begins with a dot is the dot and what follows.
pub headed : (s : List ℕ) → 0 < length s → get_or s 0 0 ≡ 46 → s ≡ 46 ∷ drop 1 s
headed [] h e = absurd (omega (arith, h))
headed (c ∷ t) h e = ap (λ x. x ∷ t) e
