-- The bytes in the ranges of a floating-point number's parts.
use Rattle.std.proofs.Common.{◌≡◌, ◌≤◌, ◌+◌, ◌-◌, ℕ, List, [], ◌∷◌, ◌++◌, length, take, drop, refl, ap, sym, ◌∙◌, subst, arith, Bool, true, false, cond, length-append}
use Rattle.std.specs.Prelude.{◌==◌, ◌||◌, Option, Some, None}
use Rattle.std.proofs.lemmas.List.{append_assoc, append-nil, take-append-drop}
use Rattle.wat_lex.specs.grammar.Numbers.{unsigned}
use Rattle.wat_lex.specs.values.NumberValues.{after_prefix, Point, no_point, bare, filled, Power, present}
use Rattle.wat_c.specs.FloatSpans.{before, optional_before, fraction_len, without_plus, exponent_digits, AreParts, AreThere, IsAt, IsOptionalAt}
use Rattle.wat_c.specs.declared.float_parts.Parts.{Parts}
use Rattle.wat_c.specs.declared.float_parts.Span.{Span}
use Rattle.wat_c.proofs.KnownWords.{slice_in}
use Rattle.wat_c.proofs.WordPlaces.{between}

-- `Suffix w e`: the text `w` ends in `e`.
record Suffix (w e : List ℕ) : Type 0 where
  front : List ℕ
  cut : w ≡ front ++ e

further : (w r e : List ℕ) → Suffix w r → Suffix r e → Suffix w e
further w r e h k = record { front = h.front ++ k.front; cut = h.cut ∙ ap (λ x. h.front ++ x) k.cut ∙ sym (append_assoc h.front k.front e) }

unsigned_suffix : (w : List ℕ) → Suffix w (unsigned w)
unsigned_suffix [] = record { front = []; cut = refl }
unsigned_suffix (c ∷ t) = by (c == 43 || c == 45)
  where
    by : (b : Bool) → Suffix (c ∷ t) (cond b t (c ∷ t))
    by true = record { front = c ∷ []; cut = refl }
    by false = record { front = []; cut = refl }

drop_suffix : (n : ℕ) (s : List ℕ) → Suffix s (drop n s)
drop_suffix n s = record { front = take n s; cut = sym (take-append-drop n s) }

prefix_suffix : (hex : Bool) (s : List ℕ) → Suffix s (after_prefix hex s)
prefix_suffix true s = drop_suffix 2 s
prefix_suffix false s = record { front = []; cut = refl }

plus_suffix : (t : List ℕ) → Suffix t (without_plus t)
plus_suffix [] = record { front = []; cut = refl }
plus_suffix (c ∷ t) = by (c == 43)
  where
    by : (b : Bool) → Suffix (c ∷ t) (cond b t (c ∷ t))
    by true = record { front = c ∷ []; cut = refl }
    by false = record { front = []; cut = refl }

point_suffix : (hex : Bool) (s r : List ℕ) (f : Option (List ℕ)) → Point hex s f r → Suffix s r
point_suffix hex s r None no_point = record { front = []; cut = refl }
point_suffix hex s r None bare = record { front = 46 ∷ []; cut = refl }
point_suffix hex s r (Some d) (filled {t = t} c k) = record { front = 46 ∷ d; cut = ap (λ x. 46 ∷ x) c }

-- A range in a token with the lexeme `w`, whose bytes are its characters.
module _ (text : List ℕ) (o l : ℕ) (w : List ℕ) (there : take l (drop o text) ≡ w) (long : length w ≡ l) where
  inside : (front d back : List ℕ) (end : ℕ) (span : Span) → w ≡ front ++ (d ++ back) → end ≡ o + length front + length d → span ≡ before end d → IsAt text d span
  inside front d back end span cut e is =
      let room : length front + length d ≤ l = omega (arith, long, ap length cut, length-append front (d ++ back), length-append d back) in
      let bytes : take (length d) (drop (o + length front) text) ≡ d =
      sym (slice_in text o l (length front) (length d) room) ∙ ap (λ x. take (length d) (drop (length front) x)) there ∙ between w front d back (length d) cut refl in
      let start : end - length d ≡ o + length front = omega (arith, e) in
      subst (IsAt text d) (sym is) (ap (λ n. take (length d) (drop n text)) start ∙ bytes)

  -- A range of the last digits.
  last : (d : List ℕ) (span : Span) → Suffix w d → span ≡ before (o + length w) d → IsAt text d span
  last d span h is =
      inside h.front d [] (o + length w) span (h.cut ∙ ap (λ x. h.front ++ x) (sym (append-nil d))) (omega (arith, ap length h.cut, length-append h.front d)) is

  pub payload_there : (span : Span) → span ≡ before (o + l) (drop 6 (unsigned w)) → IsAt text (drop 6 (unsigned w)) span
  payload_there span is =
      last (drop 6 (unsigned w)) span (further w (unsigned w) (drop 6 (unsigned w)) (unsigned_suffix w) (drop_suffix 6 (unsigned w)))
      (is ∙ ap (λ n. before (o + n) (drop 6 (unsigned w))) (sym long))

  fraction_there : (hex : Bool) (leading tail r : List ℕ) (f : Option (List ℕ)) (span : Span) → w ≡ leading ++ tail → Point hex tail f r
      → span ≡ optional_before (o + length leading + 1 + fraction_len f) f → IsOptionalAt text f span
  fraction_there hex leading tail r None span cut p is = tt
  fraction_there hex leading tail r (Some d) span cut (filled {t = t} c k) is =
      inside (leading ++ 46 ∷ []) d r (o + length leading + 1 + length d) span (cut ∙ ap (λ x. leading ++ 46 ∷ x) c ∙ sym (append_assoc leading (46 ∷ []) (d ++ r)))
      (omega (arith, length-append leading (46 ∷ []))) is

  exponent_there : (hex : Bool) (r : List ℕ) (x : Option (List ℕ)) (span : Span) → Suffix w r → Power hex r x → span ≡ optional_before (o + length w) (exponent_digits x)
      → IsOptionalAt text (exponent_digits x) span
  exponent_there hex r None span h p is = tt
  exponent_there hex r (Some t) span h (present {c = c} a k) is =
      last (without_plus t) span (further w t (without_plus t) (further w (c ∷ t) t h (record { front = c ∷ []; cut = refl })) (plus_suffix t)) is

  pub parts_there : (hex : Bool) (parts : Parts) (are : AreParts hex w o parts) → AreThere hex text are.leading are.fraction are.power parts
  parts_there hex parts are =
      let leading = are.leading in
      let cut = are.cut in
      let d = after_prefix hex (unsigned leading) in
      let digits = further leading (unsigned leading) d (unsigned_suffix leading) (prefix_suffix hex (unsigned leading)) in
      let whole : w ≡ digits.front ++ (d ++ cut.tail) = cut.cut ∙ ap (λ x. x ++ cut.tail) digits.cut ∙ append_assoc digits.front d cut.tail in
      let rest : Suffix w cut.rest = further w cut.tail cut.rest (record { front = leading; cut = cut.cut }) (point_suffix hex cut.tail cut.rest are.fraction cut.point) in
      record {
        integral = inside digits.front d cut.tail (o + length leading) parts.integral whole (omega (arith, ap length digits.cut, length-append digits.front d)) are.integral;
        fractional = fraction_there hex leading cut.tail cut.rest are.fraction parts.fractional cut.cut cut.point are.fractional;
        exponent = exponent_there hex cut.rest are.power parts.exponent rest cut.power are.exponent;
      }
