-- Lemmas about parsing a count of one to nine digits.
use Rattle.std.proofs.Common.{◌≡◌, ◌≢◌, ◌≤◌, ◌<◌, ◌^◌, ℕ, List, length, get_or, arith}
use Rattle.std.specs.Prelude.{Result, Ok, Err}
use Rattle.std.specs.Option.{SomeIff}
use Rattle.std.specs.Result.{result_ok, OkIff}
use Rattle.std.specs.Str.Parse.{AllDigits, ParsesUnsigned, digits_value}
use Rattle.std.proofs.lemmas.Str.Parse.{IsNumeralModel, tells_digits, numerals_by_value, digits_value_short, parse_plain, not_in_digits}
use Rattle.wat_tokens_output.specs.Calls.{IsCount}

own : IsNumeralModel (AllDigits 10) (digits_value 10)
own = numerals_by_value (AllDigits 10) tells_digits

-- A count does not begin with a plus sign.
pub no_plus : (digits : List ℕ) → IsCount digits → get_or digits 0 0 ≡ 43 → ⊥
no_plus digits h e = not_in_digits own digits 43 h.numeral.1 (λ r. omega arith) 0 h.numeral.0 e

-- The value of a short numeral fits into 64 bits.
fits : (digits : List ℕ) → IsCount digits → digits_value 10 digits < 2 ^ 64
fits digits h = omega (arith, digits_value_short own digits 9 h.numeral.1 h.few)

count_if : {E : Type 0} (digits : List ℕ) (r : Result ℕ E) → length digits ≤ 9 → OkIff r (AllDigits 10 digits × (0 < length digits) × (digits_value 10 digits < 2 ^ 64)) (digits_value 10 digits) → SomeIff (result_ok r) (IsCount digits) (digits_value 10 digits)
count_if digits (Ok x) few h = (record { numeral = (h.0.1, h.0.0); few = few }, h.1)
count_if digits (Err e) few h = λ k. h (k.numeral.1, k.numeral.0, fits digits k)

-- The result of `parse` for a short text without a plus sign.
pub short_count : {E : Type 0} (digits : List ℕ) (r : Result ℕ E) → ParsesUnsigned 64 10 digits r → length digits ≤ 9 → get_or digits 0 0 ≢ 43 → SomeIff (result_ok r) (IsCount digits) (digits_value 10 digits)
short_count digits r h few plain = count_if digits r few (parse_plain own 64 digits r h plain)
