-- Digits, a fraction and an exponent as a count times a power of 2.
use Rattle.std.proofs.Common.{◌≡◌, ◌⊎◌, ℕ, zero, suc, ◌+◌, ◌*◌, ◌%◌, ◌^◌, ◌<◌, ◌≤◌, Bool, false, not, T, refl, sym, ap, ◌∙◌, subst, inl, inr, arith, true≢false, pow_pos, pow-add, w64, le-ltb, le_of_eq, mod-eq_of_lt}
use Rattle.std.specs.Prelude.{to_bits, is_nan}
use Rattle.std.specs.Int.{leading_zeros}
use Rattle.std.proofs.lemmas.Nat.{leading_top}
use native.Mathlib.Nat.{mul-le-mul_right, mul-lt-mul_of_pos_right, mul-pos}
use lib.Dec.{lit<}
use lib.Ieee.{Format, binary32, binary64, ones, hid, top, round, of_bits, nan_bits}
use lib.Ieee.Bits.{to_bits-of_bits, nan_bits_is, nan_bits_above}
use Rattle.core.specs.Dec2flt.Rounding.{IsNearestBits}
use Rattle.core.proofs.dec2flt.Extremes.{nearest_of_zero}
use Rattle.wat_floats.specs.Rounding.{IsLeading, IsScaled, IsCapped, AreCapped}

-- The bits of the nearest float are those of the rounded number.
pub bits_of : (f : Format) (num den b : ℕ) → IsNearestBits f num den b → b ≡ to_bits f (round f false num den)
bits_of f num den b near =
    let below : ones f * hid f < top f = elim f as (λ g. ones g * hid g < top g) [ binary32 ↦ lit< tt | binary64 ↦ lit< tt ] in
    let small : b < top f = omega (arith, near.1) in
    let is : nan_bits f b ≡ false = nan_bits_above f b ∙ rw (mod-eq_of_lt small) (le-ltb (ones f * hid f) b near.1) in
    let number : T (not (is_nan (of_bits f b))) = subst (λ (x : Bool). T (not x)) (sym is ∙ nan_bits_is f b) tt in
    sym (to_bits-of_bits f b (omega arith) number) ∙ ap (to_bits f) near.0

sixteen : (k : ℕ) → 16 ^ k ≡ 2 ^ (k * 4)
sixteen zero = refl
sixteen (suc k) =
    let a : suc k ≡ k + 1 = omega arith in
    let b : suc k * 4 ≡ k * 4 + 4 = omega arith in
    ap (λ x. 16 ^ x) a ∙ pow-add 16 k 1 ∙ ap (λ x. x * 16) (sixteen k) ∙ sym (pow-add 2 (k * 4) 4) ∙ ap (λ x. 2 ^ x) (sym b)

-- `n * 2 ^ r / (16 ^ places * 2 ^ l)`, the value of a literal.
module _ (n r l places : ℕ) where
  abbrev num : ℕ
  num = n * 2 ^ r

  abbrev den : ℕ
  den = 16 ^ places * 2 ^ l

  pub den_pos : 0 < den
  den_pos = mul-pos (subst (λ x. 0 < x) (sym (sixteen places)) (pow_pos (places * 4))) (pow_pos l)

  den_is : den ≡ 2 ^ (places * 4 + l)
  den_is = ap (λ x. x * 2 ^ l) (sixteen places) ∙ sym (pow-add 2 (places * 4) l)

  common : ℕ
  common = 2 ^ r * den

  -- Both sides without their common factor.
  module _ (c dropped : ℕ) where
    left : c * 2 ^ (dropped * 4 + r) * den ≡ c * 16 ^ dropped * (2 ^ r * den)
    left =
        let e : 2 ^ (dropped * 4 + r) ≡ 16 ^ dropped * 2 ^ r = pow-add 2 (dropped * 4) r ∙ ap (λ x. x * 2 ^ r) (sym (sixteen dropped)) in
        let g : c * (16 ^ dropped * 2 ^ r) * den ≡ c * 16 ^ dropped * (2 ^ r * den) = grind arith in
        ap (λ x. c * x * den) e ∙ g

    right : num * 2 ^ (places * 4 + l) ≡ n * (2 ^ r * den)
    right = ap (λ x. num * x) (sym den_is) ∙ grind arith

  unit : 0 < 2 ^ r * den
  unit = mul-pos (pow_pos r) den_pos

  pub with_dropped : (c dropped : ℕ) (more : Bool) → IsLeading n c dropped more → IsScaled num den c more (dropped * 4 + r) (places * 4 + l)
  with_dropped c dropped more is = record {
    from = rw (left c dropped, right c dropped) (mul-le-mul_right (2 ^ r * den) is.from);
    below = rw (left (c + 1) dropped, right c dropped) (mul-lt-mul_of_pos_right is.below unit);
    exact = λ m. left c dropped ∙ ap (λ x. x * (2 ^ r * den)) (is.exact m) ∙ sym (right c dropped);
    strict = λ m. rw (left c dropped, right c dropped) (mul-lt-mul_of_pos_right (is.strict m) unit);
  }

  -- Without dropped digits the count is the value.
  pub whole : (c : ℕ) (more : Bool) → IsLeading n c 0 more → c ≡ n
  whole c more is = let f : c * 1 ≤ n = is.from in let b : n < (c + 1) * 1 = is.below in omega arith

  pub without_dropped : (zeros : ℕ) → IsScaled num den (n * 2 ^ zeros) false r (zeros + (places * 4 + l))
  without_dropped zeros =
      let e : n * 2 ^ zeros * 2 ^ r * den ≡ num * 2 ^ (zeros + (places * 4 + l)) =
      (let g : n * 2 ^ zeros * 2 ^ r * den ≡ n * 2 ^ r * (2 ^ zeros * den) = grind arith in g ∙ ap (λ x. num * (2 ^ zeros * x)) den_is ∙ ap (λ x. num * x) (sym (pow-add 2 zeros (places * 4 + l)))) in
      let g : (n * 2 ^ zeros + 1) * 2 ^ r * den ≡ n * 2 ^ zeros * 2 ^ r * den + 2 ^ r * den = grind arith in
      let u = unit in
      record { from = le_of_eq e; below = rw g (omega arith); exact = λ _. e; strict = λ m. absurd (true≢false (sym m)) }

-- The caps are large enough.
pub capped : (r l up_power down_power a b u v up down : ℕ) → IsCapped r up_power → IsCapped l down_power → (r ≡ 0) ⊎ (l ≡ 0) → a ≤ 2 ^ 90 → b ≤ 2 ^ 90
    → (u ≡ a + r) × (up ≡ a + up_power) → (v ≡ b + l) × (down ≡ b + down_power) → AreCapped u v up down
capped r l up_power down_power a b u v up down p q one A B e g = record {
  up_most = omega (arith, p.most);
  down_most = omega (arith, q.most);
  up_same = λ h. elim one [ inl z ↦ omega (arith, p.most) | inr z ↦ omega (arith, q.most, p.same) ];
  down_same = λ h. elim one [ inl z ↦ omega (arith, p.most, q.same) | inr z ↦ omega (arith, q.most) ];
}

pub moved : (n r l places c dropped : ℕ) (more : Bool) (up : ℕ) → IsLeading n c dropped more → dropped ≤ 0 → c * 2 ^ up < 2 ^ 64
    → IsScaled (n * 2 ^ r) (16 ^ places * 2 ^ l) (c * 2 ^ up % 2 ^ 64) false r (up + (places * 4 + l))
moved n r l places c zero more up is h small =
    let e : c * 2 ^ up % 2 ^ 64 ≡ n * 2 ^ up = mod-eq_of_lt small ∙ ap (λ x. x * 2 ^ up) (whole n r l places c more is) in
    subst (λ x. IsScaled (n * 2 ^ r) (16 ^ places * 2 ^ l) x false r (up + (places * 4 + l))) (sym e) (without_dropped n r l places up)
moved n r l places c (suc k) more up is h small = absurd (omega arith)

-- Digits with the count 0 have the value 0.
pub zero_is : (n dropped : ℕ) (more : Bool) → IsLeading n 0 dropped more → n ≡ 0
zero_is n zero more is = let b : n < (0 + 1) * 1 = is.below in omega arith
zero_is n (suc k) more is = absurd (omega (arith, is.full (omega arith)))

-- A count that is shifted up to the highest bit.
pub moved_up : (c : ℕ) → 0 < c → c < 2 ^ 64 → (c * 2 ^ leading_zeros w64 c < 2 ^ 64) × (2 ^ 60 ≤ c * 2 ^ leading_zeros w64 c)
moved_up c p h =
    let t = leading_top 64 c p h in
    let z = leading_zeros w64 c in
    let s : 2 ^ t.0 * 2 ^ z ≡ 2 ^ (t.0 + z) = sym (pow-add 2 t.0 z) in
    let e : t.0 + z ≡ 63 = omega (arith, t.1) in
    let s2 : 2 ^ suc t.0 * 2 ^ z ≡ 2 ^ (suc t.0 + z) = sym (pow-add 2 (suc t.0) z) in
    let e2 : suc t.0 + z ≡ 64 = omega (arith, t.1) in
    let lo : 2 ^ t.0 * 2 ^ z ≤ c * 2 ^ z = mul-le-mul_right (2 ^ z) t.2 in
    let hi : c * 2 ^ z < 2 ^ suc t.0 * 2 ^ z = mul-lt-mul_of_pos_right t.3 (pow_pos z) in
    (rw (s2, e2) at hi, omega (arith, rw (s, e) at lo))

-- An integer.
pub whole_leading : (n : ℕ) → IsLeading n n 0 false
whole_leading n = record { from = omega arith; below = omega arith; exact = λ _. omega arith; strict = λ m. absurd (true≢false (sym m)); full = λ z. absurd (omega arith) }

pub whole_bits : (f : Format) (n b : ℕ) → IsNearestBits f (n * 2 ^ 0) (16 ^ 0 * 2 ^ 0) b → b ≡ to_bits f (round f false n 1)
whole_bits f n b near = let e : n * 2 ^ 0 ≡ n = omega arith in bits_of f n 1 b (subst (λ x. IsNearestBits f x 1 b) e near)

pub whole_zero : (f : Format) (n : ℕ) → n ≡ 0 → 0 ≡ to_bits f (round f false n 1)
whole_zero f n z = bits_of f n 1 0 (nearest_of_zero f n 1 (lit< tt) z)
