-- Powers of two, from the largest on.
use Rattle.std.proofs.Common.{◌≡◌, ◌≢◌, ℕ, zero, suc, ◌-◌, ◌*◌, ◌<◌, ◌^◌, ◌/◌, Option, Some, sym, ap, ◌∙◌, arith}
use Rattle.std.proofs.Math.Nat.{pow-succ'}
use Rattle.std.specs.Prelude.{if◌then◌else◌, ◌==◌}
use Rattle.std.proofs.lemmas.Bool.{ne_eqb, eq-eqb}
use Rattle.wat_module_ast.specs.Memory.{exponent_below}

double : (m : ℕ) → 2 ^ suc m ≡ 2 * 2 ^ m
double m = omega (arith, pow-succ' 2 m)

pub half : (n power : ℕ) → 0 < n → power ≡ 2 ^ n → power / 2 ≡ 2 ^ (n - 1)
half zero power h e = absurd (omega arith)
half (suc m) power h e = let less : m ≡ suc m - 1 = omega arith in let halved : power / 2 ≡ 2 ^ m = omega (arith, e, double m) in halved ∙ ap (λ k. 2 ^ k) less

below : (n a : ℕ) → 0 < n → exponent_below n a ≡ (if 2 ^ (n - 1) == a then Some (n - 1) else exponent_below (n - 1) a)
below zero a h = absurd (omega arith)
below (suc m) a h = let e : m ≡ suc m - 1 = omega arith in ap (λ k. if 2 ^ k == a then Some k else exponent_below k a) e

pub is_exponent : (n a power : ℕ) (r : Option ℕ) → 0 < n → power ≡ 2 ^ n → r ≡ exponent_below n a → power / 2 ≡ a → Some (n - 1) ≡ r
is_exponent n a power r h e k is =
    sym (k ∙ below n a h ∙ ap (λ b. if b then Some (n - 1) else exponent_below (n - 1) a) (eq-eqb (2 ^ (n - 1)) a (sym (half n power h e) ∙ is)))

pub is_below : (n a power : ℕ) (r : Option ℕ) → 0 < n → power ≡ 2 ^ n → r ≡ exponent_below n a → power / 2 ≢ a → r ≡ exponent_below (n - 1) a
is_below n a power r h e k is_not =
    k ∙ below n a h ∙ ap (λ b. if b then Some (n - 1) else exponent_below (n - 1) a) (ne_eqb (2 ^ (n - 1)) a (λ is. is_not (half n power h e ∙ is)))
