-- The digits of an integer are a numeral.
use Rattle.std.proofs.Common.{◌≡◌, ◌≢◌, ◌<◌, ℕ, List, [], ◌∷◌, drop, refl, arith, ap, sym, ◌∙◌, subst, Bool, true, false, cond, not}
use Rattle.std.specs.Prelude.{◌==◌, Result, Ok, Err, IfOk}
use Rattle.std.specs.Char.{digit_value}
use Rattle.std.specs.Str.Parse.{AllDigits, IsNumeral, without_leading_sign, digits_value}
use Rattle.std.specs.Cow.{cow_str_bytes}
use Rattle.std.specs.declared.borrow.CowStr.{CowStr}
use Rattle.std.proofs.lemmas.Bool.{ne_eqb}
use Rattle.std.proofs.lemmas.Bool.Decides.{nat_tests}
use Rattle.wat_lex.specs.grammar.Numbers.{Digits, last, next, parted, is_digit, IntegralPart, unsigned, is_negative}
use Rattle.wat_lex.specs.values.NumberValues.{joined, after_prefix, bare_digits, number_text, base, IsText, IsIntegerOf, IsNumeralOf}
use Rattle.wat_lex.specs.declared.lexer.kinds.IntegerKind.{IntegerKind}
use Rattle.wat_lex.specs.declared.lexer.read.numbers.Integer.{Integer}
use Rattle.wat_lex.proofs.grammar.Digits.{digits_first, underscore_no_digit}
use Rattle.wat_lex.proofs.values.NumberParts.{no_plus, no_minus, integral_digits}

digit_in_base : (hex : Bool) (c : ℕ) → is_digit hex c ≡ true → digit_value c < base hex
digit_in_base true c h = grind (arith, nat_tests)
digit_in_base false c h = grind (arith, nat_tests)

no_underscore : (hex : Bool) (c : ℕ) → is_digit hex c ≡ true → c ≢ 95
no_underscore hex c h e = underscore_no_digit hex (subst (λ x. is_digit hex x ≡ true) e h)

kept : (hex : Bool) (c : ℕ) (t : List ℕ) → is_digit hex c ≡ true → joined (c ∷ t) ≡ c ∷ joined t
kept hex c t h = ap (λ b. cond (not b) (c ∷ joined t) (joined t)) (ne_eqb c 95 (no_underscore hex c h))

more : (hex : Bool) (c : ℕ) (t : List ℕ) → is_digit hex c ≡ true → AllDigits (base hex) (joined t) → IsNumeral (base hex) (joined (c ∷ t))
more hex c t h k = subst (IsNumeral (base hex)) (sym (kept hex c t h)) (omega arith, (digit_in_base hex c h, k))

joined_numeral : (hex : Bool) (s : List ℕ) → Digits hex s [] → IsNumeral (base hex) (joined s)
joined_numeral hex s (last {d = d} h) = more hex d [] h tt
joined_numeral hex s (next {d = d} {t = t} h k) = more hex d t h (joined_numeral hex t k).1
joined_numeral hex s (parted {d = d} {t = t} h k) = more hex d (95 ∷ t) h (joined_numeral hex t k).1

signless : (c : ℕ) (u : List ℕ) → (c == 45) ≡ false → (c == 43) ≡ false → without_leading_sign (c ∷ u) ≡ c ∷ u
signless c u e f = ap (λ b. cond b u (drop (cond (c == 43) 1 0) (c ∷ u))) e ∙ ap (λ b. drop (cond b 1 0) (c ∷ u)) f

joined_signless : (hex : Bool) (s : List ℕ) → Digits hex s [] → without_leading_sign (joined s) ≡ joined s
joined_signless hex [] h = refl
joined_signless hex (c ∷ t) h =
    let d = digits_first hex c t [] h in
    let e = kept hex c t d in
    ap without_leading_sign e ∙ signless c (joined t) (ne_eqb c 45 (no_minus hex c d)) (ne_eqb c 43 (no_plus hex c d)) ∙ sym e

text_signless : (hex : Bool) (w : List ℕ) → IntegralPart hex (unsigned w) [] → without_leading_sign (number_text hex w) ≡ bare_digits hex w
text_signless hex w h = by (is_negative w)
  where
    by : (b : Bool) → without_leading_sign (cond b (45 ∷ bare_digits hex w) (bare_digits hex w)) ≡ bare_digits hex w
    by true = refl
    by false = joined_signless hex (after_prefix hex (unsigned w)) (integral_digits hex (unsigned w) [] h)

text_bytes : {Z : Type 0} (again : Bool) (d : List ℕ) (t : CowStr Z) → IsText again d t → cow_str_bytes t ≡ d
text_bytes true d t h = h.0
text_bytes false d t h = h.0

pub numeral_of : (k : IntegerKind) (w : List ℕ) (i : Integer) → IntegralPart k.hex (unsigned w) [] → IsIntegerOf k w i → IsNumeralOf k w i
numeral_of k w i h o =
    let g : without_leading_sign (cow_str_bytes i.digits) ≡ bare_digits k.hex w = ap without_leading_sign (text_bytes _ (number_text k.hex w) i.digits o.digits) ∙ text_signless k.hex w h in
    let n : IsNumeral (base k.hex) (bare_digits k.hex w) = joined_numeral k.hex (after_prefix k.hex (unsigned w)) (integral_digits k.hex (unsigned w) [] h) in
    record {
      numeral = subst (λ x. IsNumeral (base x) (without_leading_sign (cow_str_bytes i.digits))) (sym o.hex) (subst (IsNumeral (base k.hex)) (sym g) n);
      value = ap (λ x. digits_value (base x) (without_leading_sign (cow_str_bytes i.digits))) o.hex ∙ ap (digits_value (base k.hex)) g;
    }

pub if_ok : {A E : Type 0} (P Q : A → Type 0) → ((x : A) → P x → Q x) → (r : Result A E) → IfOk r P → IfOk r Q
if_ok P Q f (Ok x) h = f x h
if_ok P Q f (Err e) h = tt
