-- The digits of a number, the last first.
use Rattle.std.proofs.Common.{◌≡◌, ◌<◌, ◌≤◌, ◌+◌, ◌-◌, ◌*◌, ◌/◌, ◌%◌, ◌^◌, ◌⊎◌, ℕ, zero, suc, false, List, [], ◌∷◌, length, drop, slice_set, arith, ap, sym, ◌∙◌, subst, inl, inr}
use Rattle.std.specs.Prelude.{if◌then◌else◌, ◌==◌}
use Rattle.std.specs.Fmt.{digits, digits_onto, digit_glyph}
use Rattle.std.specs.Str.{IsAscii}
use Rattle.std.proofs.lemmas.Bool.{cases_Bool, ne_eqb}
use Rattle.std.proofs.lemmas.Bool.Decides.{nat_tests}
use Rattle.std.proofs.lemmas.List.{drop-set, length-set}
use Rattle.std.proofs.Math.Nat.{pow-succ'}

abbrev pub IsBase : ℕ → Type 0
IsBase base = (base ≡ 10) ⊎ (base ≡ 16)

pub smaller : (base n k : ℕ) → IsBase base → n < 10 * k → n / base < k
smaller base n k (inl e) l = subst (λ b. n / b < k) (sym e) (omega (arith, l))
smaller base n k (inr e) l = subst (λ b. n / b < k) (sym e) (omega (arith, l))

pub last_digit : (base n : ℕ) → IsBase base → n % base < 16
last_digit base n (inl e) = subst (λ b. n % b < 16) (sym e) (omega arith)
last_digit base n (inr e) = subst (λ b. n % b < 16) (sym e) (omega arith)

-- one digit more comes before those that are there
pub one_more : (k base n : ℕ) (acc : List ℕ) → (n / base ≡ 0 → ⊥) → digits_onto (suc k) base false n acc ≡ digits_onto k base false (n / base) (digit_glyph false (n % base) ∷ acc)
one_more k base n acc h =
    ap (λ b. if b then digit_glyph false (n % base) ∷ acc else digits_onto k base false (n / base) (digit_glyph false (n % base) ∷ acc)) (ne_eqb (n / base) 0 h)

pub first_digit : (k base n : ℕ) (acc : List ℕ) → n / base ≡ 0 → digits_onto (suc k) base false n acc ≡ digit_glyph false (n % base) ∷ acc
first_digit k base n acc h =
    ap (λ m. if m == 0 then digit_glyph false (n % base) ∷ acc else digits_onto k base false m (digit_glyph false (n % base) ∷ acc)) h

pub low_glyph : (d : ℕ) → d < 10 → digit_glyph false d ≡ 48 + d
low_glyph d l = grind (arith, nat_tests)

pub high_glyph : (d : ℕ) → 10 ≤ d → digit_glyph false d ≡ 87 + d
high_glyph d l = grind (arith, nat_tests)

glyph_ascii : (d : ℕ) → d < 16 → digit_glyph false d < 128
glyph_ascii d l = grind arith

cons_ascii : (b : ℕ) (bs : List ℕ) → b < 128 → IsAscii bs → IsAscii (b ∷ bs)
cons_ascii b bs l h zero = l
cons_ascii b bs l h (suc i) = h i

onto_ascii : (k base n : ℕ) (acc : List ℕ) → IsBase base → IsAscii acc → IsAscii (digits_onto k base false n acc)
onto_ascii zero base n acc b h = h
onto_ascii (suc k) base n acc b h =
    let glyph = cons_ascii (digit_glyph false (n % base)) acc (glyph_ascii (n % base) (last_digit base n b)) h in
    elim (cases_Bool (n / base == 0)) [
      | inl t ↦ subst (λ c. IsAscii (if c then digit_glyph false (n % base) ∷ acc else digits_onto k base false (n / base) (digit_glyph false (n % base) ∷ acc))) (sym t) glyph
      | inr f ↦ subst (λ c. IsAscii (if c then digit_glyph false (n % base) ∷ acc else digits_onto k base false (n / base) (digit_glyph false (n % base) ∷ acc))) (sym f)
          (onto_ascii k base (n / base) (digit_glyph false (n % base) ∷ acc) b glyph)
    ]

pub digits_ascii : (base n : ℕ) → IsBase base → IsAscii (digits base false n)
unfolding digits
digits_ascii base n b = onto_ascii 64 base n [] b (λ i. omega arith)

tenfold : (at rest : ℕ) → 0 < at → rest < 10 ^ at → rest < 10 * 10 ^ (at - 1)
tenfold zero rest l h = absurd (omega (arith, l))
tenfold (suc a) rest l h = let less : suc a - 1 ≡ a = omega arith in subst (λ n. rest < 10 * 10 ^ n) (sym less) (subst (λ n. rest < n) (pow-succ' 10 a) h)

some_left : (at rest : ℕ) → rest < 10 ^ at → (rest ≡ 0 → ⊥) → 0 < at
some_left zero rest l n = absurd (n (omega (arith, l)))
some_left (suc a) rest l n = omega arith

-- The invariant while the digits of a number are written from the last one back: the digits of the rest, before those
-- in the buffer from the index at on, are those of the number.
pub record Written (base number : ℕ) (at rest : ℕ) (room : List ℕ) : Type 0 where
  pub some : 0 < at
  pub within : at ≤ 20
  pub few : rest < 10 ^ at
  pub long : length room ≡ 20
  pub digits : digits_onto (at + 44) base false rest (drop at room) ≡ digits base false number

-- a digit is written
module _ (base number at rest byte : ℕ) (room : List ℕ) (b : IsBase base) (h : Written base number at rest room) (glyph : byte ≡ digit_glyph false (rest % base)) where
  before : drop (at - 1) (slice_set room (at - 1) byte) ≡ digit_glyph false (rest % base) ∷ drop at room
  before =
      let some = h.some in
      let end : at - 1 + 1 ≡ at = omega (arith, some) in
      drop-set room (at - 1) byte (omega (arith, some, h.within, h.long)) ∙ ap (λ n. byte ∷ drop n room) end ∙ ap (λ x. x ∷ drop at room) glyph

  one : at + 44 ≡ suc (at - 1 + 44)
  one = let some = h.some in omega (arith, some)

  fewer : rest / base < 10 ^ (at - 1)
  fewer = smaller base rest (10 ^ (at - 1)) b (tenfold at rest h.some h.few)

  pub written_more : (rest / base ≡ 0 → ⊥) → Written base number (at - 1) (rest / base) (slice_set room (at - 1) byte)
  written_more n = record {
    some = some_left (at - 1) (rest / base) fewer n;
    within = let some = h.within in omega (arith, some);
    few = fewer;
    long = length-set room (at - 1) byte ∙ h.long;
    digits = ap (digits_onto (at - 1 + 44) base false (rest / base)) before ∙ sym (one_more (at - 1 + 44) base rest (drop at room) n) ∙ ap (λ k. digits_onto k base false rest (drop at room)) (sym one) ∙ h.digits;
  }

  pub written_all : rest / base ≡ 0 → drop (at - 1) (slice_set room (at - 1) byte) ≡ digits base false number
  written_all z = before ∙ sym (first_digit (at - 1 + 44) base rest (drop at room) z) ∙ ap (λ k. digits_onto k base false rest (drop at room)) (sym one) ∙ h.digits
