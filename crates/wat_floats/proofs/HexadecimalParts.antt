-- The definition of a hexadecimal literal, in the terms that the code computes.
use Rattle.std.proofs.Common.{◌≡◌, ◌⊎◌, ℕ, ◌*◌, ◌^◌, if◌then◌else◌, Bool, true, false, List, length, refl, sym, ap, ◌∙◌, subst, inl, inr, arith}
use Rattle.std.specs.Str.Parse.{digits_value_after}
use lib.Ieee.{Format}
use Rattle.core.specs.Dec2flt.Rounding.{IsNearestBits}
use Rattle.core.proofs.dec2flt.Extremes.{nearest_of_zero}
use Rattle.wat_lex.specs.grammar.Numbers.{is_negative}
use Rattle.wat_floats.specs.Literals.{digits, after_digits, fraction, after_fraction, exponent, up_power, down_power, size, numerator, denominator, nearest}
use Rattle.wat_floats.proofs.Digits.{appended}
use Rattle.wat_floats.proofs.Scaling.{bits_of, den_pos}

pub one_is_none : (e : List ℕ) → (up_power e ≡ 0) ⊎ (down_power e ≡ 0)
one_is_none e = by (is_negative e) (size e)
  where
    by : (b : Bool) (s : ℕ) → ((if b then 0 else s) ≡ 0) ⊎ ((if b then s else 0) ≡ 0)
    by true s = inl refl
    by false s = inr refl

-- The value of the digits of both parts.
abbrev pub number : List ℕ → ℕ
number t = digits_value_after 16 (digits_value_after 16 0 (digits true t)) (fraction true (after_digits true t))

abbrev pub places : List ℕ → ℕ
places t = length (fraction true (after_digits true t))

abbrev pub power : List ℕ → List ℕ
power t = exponent true (after_fraction true (after_digits true t))

pub nearest_is : (f : Format) (t : List ℕ) (b : ℕ) → IsNearestBits f (number t * 2 ^ up_power (power t)) (16 ^ places t * 2 ^ down_power (power t)) b → b ≡ nearest f true t
unfolding nearest numerator denominator
nearest_is f t b near =
    let e = appended 16 0 (digits true t) (fraction true (after_digits true t)) in
    bits_of f _ _ b (subst (λ n. IsNearestBits f (n * 2 ^ up_power (power t)) (16 ^ places t * 2 ^ down_power (power t)) b) (sym e) near)

pub zero_is_nearest : (f : Format) (t : List ℕ) → number t ≡ 0 → 0 ≡ nearest f true t
zero_is_nearest f t z =
    let p = 2 ^ up_power (power t) in
    let e : number t * p ≡ 0 = ap (λ n. n * p) z ∙ omega arith in
    nearest_is f t 0 (nearest_of_zero f _ _ (den_pos 0 0 (down_power (power t)) (places t)) e)
