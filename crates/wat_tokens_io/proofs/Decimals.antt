-- Lemmas about decimal digits, two at a time.
use Rattle.std.proofs.Common.{◌≡◌, ℕ, ◌+◌, ◌/◌, ◌%◌, ◌^◌, ◌<◌, ◌≤◌, List, [], ◌∷◌, ◌++◌, length, get_or, map, refl, ap, ◌∙◌, arith, append_assoc, length-append}
use Rattle.std.specs.Fmt.{decimal}
use Rattle.std.specs.List.{range_with_len}
use Rattle.std.proofs.lemmas.Fmt.{decimal_digit, decimal_step, length-decimal-le}
use Rattle.std.proofs.lemmas.List.FromFn.{get_or-map-range_with_len}
use Rattle.wat_tokens_io.specs.declared.line.TheConstants.{PAIRS}

abbrev pub pair : ℕ → List ℕ
pair n = (48 + n / 10) ∷ (48 + n % 10) ∷ []

table : PAIRS ≡ map pair (range_with_len 0 100)
table = refl

pub pair_at : (n : ℕ) → n < 100 → get_or PAIRS n [] ≡ pair n
pair_at n h = ap (λ t. get_or t n []) table ∙ get_or-map-range_with_len pair 0 100 n n [] h (omega arith)

pub decimal_below_100 : (n : ℕ) → 10 ≤ n → n < 100 → decimal n ≡ pair n
decimal_below_100 n lo hi = decimal_step n lo (omega arith) ∙ ap (λ d. d ++ (48 + n % 10) ∷ []) (decimal_digit (n / 10) (omega arith))

pub decimal_from_100 : (n : ℕ) → 100 ≤ n → n < 2 ^ 64 → decimal n ≡ decimal (n / 100) ++ pair (n % 100)
decimal_from_100 n lo hi =
    let front : n / 10 / 10 ≡ n / 100 = omega arith in
    let tens : n / 10 % 10 ≡ n % 100 / 10 = omega arith in
    let ones : n % 10 ≡ n % 100 % 10 = omega arith in
    rw (decimal_step n (omega arith) (omega arith), decimal_step (n / 10) (omega arith) (omega arith), append_assoc, front, tens, ← ones)

-- After the last digits were written, the digits of the quotient still fit.
pub rest_fits : (number rest : ℕ) (line before : List ℕ) → number < 2 ^ 33 → decimal rest ++ line ≡ decimal number ++ before → length (decimal rest) + length line ≤ 10 + length before
rest_fits number rest line before h e = omega (arith, length-decimal-le 10 number (omega arith) (omega arith) (omega arith), simp length-append at (ap length e))
