-- Powers of 2 of at least 8 bits.
use Rattle.std.proofs.Common.{◌≡◌, ◌<◌, ◌≤◌, ◌^◌, ◌+◌, ◌-◌, ℕ, zero, suc, false, sym, subst, arith}
use Rattle.std.specs.Prelude.{nat_le, nat_lt}
use Rattle.std.proofs.Common.{◌∙◌}
use Rattle.std.proofs.Math.Nat.{pow-suc}

large : (k : ℕ) → 256 ≤ 2 ^ (k + 8)
large zero = omega arith
large (suc k) = let l = large k in let e : suc k + 8 ≡ suc (k + 8) = omega arith in subst (λ (n : ℕ). 256 ≤ 2 ^ n) (sym e) (rw (pow-suc 2 (k + 8)) (omega (arith, l)))

pub too_large : (a w : ℕ) → 8 ≤ a → w < 256 → nat_lt a 8 ≡ nat_le (2 ^ a) w
too_large a w l u =
    let k : (a - 8) + 8 ≡ a = omega arith in
    let big : 256 ≤ 2 ^ a = subst (λ (n : ℕ). 256 ≤ 2 ^ n) k (large (a - 8)) in
    let no : nat_lt a 8 ≡ false = grind arith in
    let none : nat_le (2 ^ a) w ≡ false = grind arith in
    no ∙ sym none
