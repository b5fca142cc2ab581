-- Contracts between private functions: how a floating-point number's lexeme is split at its dot and exponent letter.
use Rattle.std.specs.Prelude.{◌≡◌, ℕ, ◌==◌, ◌||◌, Bool, not, List, Option}
use Rattle.wat_lex.specs.grammar.Classes.{dot}
use Rattle.wat_lex.specs.grammar.Numbers.{is_exponent_letter}
use Rattle.wat_lex.specs.values.NumberValues.{Point, Power}
use Rattle.wat_c.specs.FloatSpans.{fraction_len}

-- The byte is neither a dot nor the letter of an exponent.
abbrev pub is_of_digits : Bool → ℕ → Bool
is_of_digits hex c = not (c == dot || is_exponent_letter hex c)

-- `SplitsFraction hex tail n power`: the text `tail` is a fraction with `n` bytes of digits, and then the exponent
-- `power`, which may be empty.
pub record SplitsFraction (hex : Bool) (tail : List ℕ) (n : ℕ) (power : List ℕ) : Type 0 where
  pub fraction : Option (List ℕ)
  pub exponent : Option (List ℕ)
  pub point : Point hex tail fraction power
  pub rest : Power hex power exponent
  pub count : n ≡ fraction_len fraction
