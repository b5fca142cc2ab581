-- The bits of the float nearest to a count times a power of 2.
use Rattle.std.proofs.Common.{◌≡◌, ℕ, suc, ◌+◌, ◌-◌, ◌*◌, ◌/◌, ◌%◌, ◌^◌, ◌<◌, ◌≤◌, ◌⊎◌, Bool, true, false, refl, sym, ap, ◌∙◌, subst, inl, inr, arith}
use Rattle.std.specs.Prelude.{not, ◌&&◌, ◌||◌, ◌==◌, if◌then◌else◌}
use Rattle.std.proofs.Common.{w64}
use Rattle.std.specs.Int.{leading_zeros}
use Rattle.std.proofs.lemmas.Nat.{leading_top}
use Rattle.std.proofs.lemmas.Bool.{cases_Bool}
use borrow.Author.Tests.{ne_eqb}
use lib.Dec.{lit<}
use native.Mathlib.Nat.{mod-lt, eq-zero-or-pos, lt_of_lt_of_le, mul-le-mul_right, mul-lt-mul_of_pos_right, le_of_mul-le-mul_right, lt_of_mul-lt-mul_right, eq_of_mul-eq-mul_right, div-add-mod', div-eq_of_lt}
use lib.Pow.{pow_pos, pow_mono, pow-add, shr_lt, mod-pow-add}
use lib.Ieee.{Format, prec, low, hid, ones}
use Rattle.core.specs.Dec2flt.Rounding.{scaled_bits, IsNearestBits, IsJustAbove, IsCut, IsSignificand, IsWithin}
use Rattle.core.proofs.dec2flt.Patterns.{shape}
use Rattle.core.proofs.dec2flt.RoundingLemmas.{nearest_above, nearest_tie}
use Rattle.core.proofs.dec2flt.Settle.{rounds_down, rounds_up, lies_above, significand_of}
use Rattle.wat_floats.specs.Rounding.{IsScaled, goes_up, rounded_bits}

-- `a * 2 ^ u / 2 ^ v` compared with `num / den`, in units of `2 ^ k / 2 ^ d` times the least positive float.
module _ (a num den u v l d k : ℕ) (E : u + l + d ≡ k + v) where
  powers : 2 ^ k * 2 ^ v ≡ 2 ^ u * (2 ^ l * 2 ^ d)
  powers = sym (pow-add 2 k v) ∙ ap (λ x. 2 ^ x) (sym E) ∙ pow-add 2 (u + l) d ∙ ap (λ x. x * 2 ^ d) (pow-add 2 u l) ∙ regroup (2 ^ u) (2 ^ l) (2 ^ d)
    where
      regroup : (x y z : ℕ) → x * y * z ≡ x * (y * z)
      regroup x y z = grind arith

  left : a * (den * 2 ^ k) * 2 ^ v ≡ a * 2 ^ u * den * (2 ^ l * 2 ^ d)
  left =
      let p : a * (den * 2 ^ k) * 2 ^ v ≡ a * den * (2 ^ k * 2 ^ v) = grind arith in
      let q : a * den * (2 ^ u * (2 ^ l * 2 ^ d)) ≡ a * 2 ^ u * den * (2 ^ l * 2 ^ d) = grind arith in
      p ∙ ap (λ x. a * den * x) powers ∙ q

  right : num * 2 ^ l * 2 ^ d * 2 ^ v ≡ num * 2 ^ v * (2 ^ l * 2 ^ d)
  right = grind arith

  unit : 0 < 2 ^ l * 2 ^ d
  unit = subst (λ x. 0 < x) (pow-add 2 l d) (pow_pos (l + d))

  le_there : a * 2 ^ u * den ≤ num * 2 ^ v → a * (den * 2 ^ k) ≤ num * 2 ^ l * 2 ^ d
  le_there h = le_of_mul-le-mul_right {k = 2 ^ v} (rw (left, right) (mul-le-mul_right (2 ^ l * 2 ^ d) h)) (pow_pos v)

  lt_there : a * 2 ^ u * den < num * 2 ^ v → a * (den * 2 ^ k) < num * 2 ^ l * 2 ^ d
  lt_there h = lt_of_mul-lt-mul_right (2 ^ v) (rw (left, right) (mul-lt-mul_of_pos_right h unit))

  gt_there : num * 2 ^ v < a * 2 ^ u * den → num * 2 ^ l * 2 ^ d < a * (den * 2 ^ k)
  gt_there h = lt_of_mul-lt-mul_right (2 ^ v) (rw (left, right) (mul-lt-mul_of_pos_right h unit))

  eq_there : a * 2 ^ u * den ≡ num * 2 ^ v → a * (den * 2 ^ k) ≡ num * 2 ^ l * 2 ^ d
  eq_there h = eq_of_mul-eq-mul_right (2 ^ v) (pow_pos v) _ _ (left ∙ ap (λ x. x * (2 ^ l * 2 ^ d)) h ∙ sym right)

-- A count that exceeds `m` units by half a unit.
module _ (m c h x y : ℕ) (is : c ≡ m * (2 * h) + h) (H : 0 < h) where
  twice : (2 * m + 1) * x * h ≡ c * x
  twice = let e : (2 * m + 1) * x * h ≡ (m * (2 * h) + h) * x = grind arith in e ∙ ap (λ z. z * x) (sym is)

  other : 2 * y * h ≡ y * (2 * h)
  other = grind arith

  half_lt : c * x < y * (2 * h) → (2 * m + 1) * x < 2 * y
  half_lt p = lt_of_mul-lt-mul_right h (rw (twice, other) p)

  half_eq : c * x ≡ y * (2 * h) → 2 * y ≡ (2 * m + 1) * x
  half_eq p = eq_of_mul-eq-mul_right h H _ _ (other ∙ sym p ∙ sym twice)

odd_or_even : (n : ℕ) → (n % 2 ≡ 0) ⊎ (n % 2 ≡ 1)
odd_or_even n = elim (eq-zero-or-pos (n % 2)) [ inl e ↦ inl e | inr p ↦ (let l : n % 2 < 2 = mod-lt n (lit< tt) in inr (omega arith)) ]

-- The test of `goes_up`: `a` is the bit worth half, `l` the bits below it, and `n` the lowest kept bit.
abbrev up : ℕ → Bool → ℕ → ℕ → Bool
up a more l n = a == 1 && (more || not (l == 0) || n == 1)

up_even : (a : ℕ) (more : Bool) (l n : ℕ) → a ≡ 0 → up a more l n ≡ false
up_even a more l n e = rw e refl

up_more : (a : ℕ) (more : Bool) (l n : ℕ) → a ≡ 1 → more ≡ true → up a more l n ≡ true
up_more a more l n e m = rw (e, m) refl

up_above : (a : ℕ) (more : Bool) (l n : ℕ) → a ≡ 1 → 0 < l → up a more l n ≡ true
up_above a true l n e p = rw e refl
up_above a false l n e p = rw (e, ne_eqb l 0 (λ z. absurd (omega arith))) refl

up_tie : (a : ℕ) (more : Bool) (l n : ℕ) → a ≡ 1 → more ≡ false → l ≡ 0 → up a more l n ≡ (n == 1)
up_tie a more l n e m z = rw (e, m, z) refl

to_even : (m : ℕ) → (if m % 2 == 1 then m + 1 else m) ≡ m + m % 2
to_even m = elim (odd_or_even m) [ inl e ↦ rw e (omega arith) | inr e ↦ rw e (omega arith) ]

module _ (f : Format) (num den c : ℕ) (more : Bool) (u v k d : ℕ) (D : 0 < den) (j : ℕ) (many : 60 ≤ j) (lo : 2 ^ j ≤ c) (hi : c < 2 ^ (j + 1))
    (is : IsScaled num den c more u v) (E : u + low f + d ≡ k + v) (fits : j + 1 ≤ prec f + d) (full : 0 < k → j + 1 ≡ prec f + d) where
  next_power : 2 ^ (j + 1) ≡ 2 ^ j * 2
  next_power = pow-add 2 j 1

  within : IsWithin f num den c 1 d k
  within = record { from = le_there c num den u v (low f) d k E is.from; below = gt_there (c + 1) num den u v (low f) d k E is.below }

  positive : 0 < d
  positive = let s = shape f in omega arith

  half : 2 * 2 ^ (d - 1) ≡ 2 ^ d
  half = let p = positive in let e : d - 1 + 1 ≡ d = omega arith in let q : 2 ^ (d - 1 + 1) ≡ 2 ^ (d - 1) * 2 ^ 1 = pow-add 2 (d - 1) 1 in omega (arith, ap (λ x. 2 ^ x) e)

  significand : IsSignificand f (c / 2 ^ d) k
  significand = let p = next_power in significand_of f j c 0 d k lo (omega arith) (sym (div-eq_of_lt (omega arith))) (omega arith) (λ K. omega (arith, full K))

  cut : IsCut c d (c / 2 ^ d) (c % 2 ^ d) (2 ^ (d - 1))
  cut = record { above = refl; below = refl; twice = half }

  parts : c % 2 ^ d ≡ (c / 2 ^ (d - 1) % 2) * 2 ^ (d - 1) + c % 2 ^ (d - 1)
  parts = let p = positive in let e : 1 + (d - 1) ≡ d = omega arith in subst (λ x. c % 2 ^ x ≡ (c / 2 ^ (d - 1) % 2) * 2 ^ (d - 1) + c % 2 ^ (d - 1)) e (mod-pow-add c 1 (d - 1))

  -- The kept bits, and half of the lowest kept bit.
  abbrev kept : ℕ
  kept = c / 2 ^ d

  abbrev h : ℕ
  h = 2 ^ (d - 1)

  wide : 1 ≤ h
  wide = pow_pos (d - 1)

  at : (b : Bool) → goes_up c more d ≡ b → IsNearestBits f num den (scaled_bits f (if b then kept + 1 else kept) k) → IsNearestBits f num den (rounded_bits f c more d k)
  at b e p = subst (λ (x : Bool). IsNearestBits f num den (scaled_bits f (if x then kept + 1 else kept) k)) (sym e) p

  below_half : c / h % 2 ≡ 0 → IsNearestBits f num den (rounded_bits f c more d k)
  below_half e =
      let l : c % h < h = mod-lt c wide in
      let r : c % 2 ^ d ≡ c % h = parts ∙ rw e (omega arith) in
      at false (up_even _ more _ _ e) (rounds_down significand cut D within (omega arith))

  module _ (e : c / h % 2 ≡ 1) where
    rest : c % 2 ^ d ≡ h + c % h
    rest = parts ∙ rw e (omega arith)

    above_half : 0 < c % h → IsNearestBits f num den (rounded_bits f c more d k)
    above_half p = let r = rest in let w = wide in at true (up_above _ more _ _ e p) (rounds_up significand cut D within (omega arith) (omega arith))

    module _ (z : c % h ≡ 0) where
      whole : c ≡ kept * (2 * h) + h
      whole = let r = rest in let t = half in sym (div-add-mod' c (2 ^ d)) ∙ ap (λ x. kept * x + c % 2 ^ d) (sym t) ∙ omega arith

      next : IsJustAbove f num den kept k
      next = let r = rest in let w = wide in lies_above significand cut D within (omega arith) (omega arith)

      sticky : more ≡ true → IsNearestBits f num den (rounded_bits f c more d k)
      sticky m =
          let l : c * (den * 2 ^ k) < num * 2 ^ low f * (2 * h) = rw half (lt_there c num den u v (low f) d k E (is.strict m)) in
          at true (up_more _ more _ _ e m) (nearest_above f num den kept k D next (half_lt kept c h (den * 2 ^ k) (num * 2 ^ low f) whole wide l))

      tie : more ≡ false → IsNearestBits f num den (rounded_bits f c more d k)
      tie m =
          let l : c * (den * 2 ^ k) ≡ num * 2 ^ low f * (2 * h) = rw half (eq_there c num den u v (low f) d k E (is.exact m)) in
          at (kept % 2 == 1) (up_tie _ more _ _ e m z)
          (subst (λ x. IsNearestBits f num den (scaled_bits f x k)) (sym (to_even kept)) (nearest_tie f num den kept k D next (half_eq kept c h (den * 2 ^ k) (num * 2 ^ low f) whole wide l)))

  pub rounds : IsNearestBits f num den (rounded_bits f c more d k)
  rounds =
      elim (odd_or_even (c / h)) [
        | inl e ↦ below_half e
        | inr e ↦ elim (eq-zero-or-pos (c % h)) [
          | inr p ↦ above_half e p
          | inl z ↦ elim (cases_Bool more) [ inl m ↦ sticky e z m | inr m ↦ tie e z m ]
        ]
      ]

-- Numbers far above the greatest float, and far below the least.
module _ (f : Format) (num den c : ℕ) (more : Bool) (u v : ℕ) (D : 0 < den) (j : ℕ) (many : 60 ≤ j) (lo : 2 ^ j ≤ c) (hi : c < 2 ^ (j + 1)) (is : IsScaled num den c more u v) where
  pub too_large : v + 2047 ≤ u + low f + (j + 1 - prec f) → IsNearestBits f num den (ones f * hid f)
  too_large big =
      let s = shape f in
      let d = j + 1 - prec f in
      let k = u + low f + d - v in
      let most : ones f * hid f ≤ k * hid f = mul-le-mul_right (hid f) (omega arith) in
      let all : rounded_bits f c more d k ≡ ones f * hid f = omega arith in
      subst (IsNearestBits f num den) all (rounds f num den c more u v k d D j many lo hi is (omega arith) (omega arith) (λ _. omega arith))

  pub too_small : u + low f + (j + 1) < v → IsNearestBits f num den 0
  too_small small =
      let s = shape f in
      let d = v - (u + low f) in
      let room : 2 ^ (j + 1) ≤ 2 ^ (d - 1) = pow_mono {i = j + 1} {j = d - 1} (omega arith) in
      let more_room : 2 ^ (j + 1) ≤ 2 ^ d = pow_mono {i = j + 1} {j = d} (omega arith) in
      let half_none : c / 2 ^ (d - 1) % 2 ≡ 0 = rw (div-eq_of_lt (lt_of_lt_of_le hi room)) refl in
      let none : rounded_bits f c more d 0 ≡ 0 = rw (half_none, div-eq_of_lt (lt_of_lt_of_le hi more_room)) (omega arith) in
      subst (IsNearestBits f num den) none (rounds f num den c more u v 0 d D j many lo hi is (omega arith) (omega arith) (λ z. absurd (omega arith)))

-- The highest bit of a count.
pub top_bit : (c : ℕ) → 2 ^ 60 ≤ c → c < 2 ^ 64 → (j : ℕ) × (60 ≤ j) × (leading_zeros w64 c + (j + 1) ≡ 64) × (2 ^ j ≤ c) × (c < 2 ^ (j + 1))
top_bit c lo hi =
    let t = leading_top 64 c (omega arith) hi in
    let e : suc t.0 ≡ t.0 + 1 = omega arith in
    let above : c < 2 ^ (t.0 + 1) = subst (λ x. c < 2 ^ x) e t.3 in
    let many : 60 ≤ t.0 = elim (eq-zero-or-pos (60 - t.0)) [ inl z ↦ omega arith | inr p ↦ (let l : 2 ^ (t.0 + 1) ≤ 2 ^ 60 = pow_mono {i = t.0 + 1} {j = 60} (omega arith) in absurd (omega arith)) ] in
    (t.0, many, omega (arith, t.1), t.2, above)

pub kept_below : (p c j d : ℕ) → c < 2 ^ (j + 1) → j + 1 ≤ p + d → c / 2 ^ d < 2 ^ p
kept_below p c j d h l = shr_lt p d (lt_of_lt_of_le h (pow_mono {i = j + 1} {j = p + d} l))
