-- WebAssembly 2.0, 6.3.1 (integers) and 6.3.2 (floating-point): the language of numeric literals. A relation of two
-- lists, such as `Digits hex s r`, states that `s` begins with such a part of a literal, and that `r` is the rest of
-- `s`. The fields of a number's kind are determined by its lexeme.
use Rattle.std.specs.Prelude.{◌≡◌, ℕ, Bool, true, false, ◌||◌, ◌==◌, if◌then◌else◌, List, [], ◌∷◌, ◌++◌, IsTrue, Option, Some, None, codes}
use Rattle.std.specs.Char.{is_ascii_digit, is_ascii_hexdigit, char_set_contains}
use Rattle.std.specs.List.{list_any}
use Rattle.wat_lex.specs.grammar.Classes.{underscore, plus, minus, dot}
use Rattle.wat_lex.specs.declared.lexer.kinds.Sign.{Sign}
use Rattle.wat_lex.specs.declared.lexer.kinds.Sign.TheVariants as sign
use Rattle.wat_lex.specs.declared.lexer.kinds.SignToken.{SignToken}
use Rattle.wat_lex.specs.declared.lexer.kinds.SignToken.TheVariants.{Plus, Minus}
use Rattle.wat_lex.specs.declared.lexer.kinds.FloatKind.TheVariants.{Inf, Nan, NanVal, Normal}
use Rattle.wat_lex.specs.declared.lexer.kinds.TokenKind.{TokenKind}
use Rattle.wat_lex.specs.declared.lexer.kinds.TokenKind.TheVariants.{Integer, Float}

-- The sign with which the lexeme begins.
abbrev pub sign_of : List ℕ → Sign
sign_of [] = sign.None
sign_of (c ∷ t) = if c == plus then sign.Plus else if c == minus then sign.Minus else sign.None

-- The sign as callers see it: `None` without a sign.
abbrev pub sign_token : Sign → Option SignToken
sign_token sign.None = None
sign_token sign.Plus = Some Plus
sign_token sign.Minus = Some Minus

-- The lexeme without its sign.
abbrev pub unsigned : List ℕ → List ℕ
unsigned [] = []
unsigned (c ∷ t) = if c == plus || c == minus then t else c ∷ t

abbrev pub is_negative : List ℕ → Bool
is_negative [] = false
is_negative (c ∷ t) = c == minus

abbrev pub has_underscores : List ℕ → Bool
has_underscores w = list_any (λ c. c == underscore) w

-- `is_digit hex c`: `c` is a hexadecimal digit if `hex` is set, and a decimal digit otherwise.
abbrev pub is_digit : Bool → ℕ → Bool
is_digit true c = is_ascii_hexdigit c
is_digit false c = is_ascii_digit c

abbrev pub is_exponent_letter : Bool → ℕ → Bool
is_exponent_letter true c = char_set_contains (codes "pP") c
is_exponent_letter false c = char_set_contains (codes "eE") c

-- WebAssembly 2.0, 6.3.1 (`num`, `hexnum`). `Digits hex s r`: `s` is one or more digits, with at most one underscore
-- between two of them, and then `r`.
pub data Digits : Bool → List ℕ → List ℕ → Type 0 where
  last : {hex : Bool} {d : ℕ} {r : List ℕ} → IsTrue (is_digit hex d) → Digits hex (d ∷ r) r
  next : {hex : Bool} {d : ℕ} {t r : List ℕ} → IsTrue (is_digit hex d) → Digits hex t r → Digits hex (d ∷ t) r
  parted : {hex : Bool} {d : ℕ} {t r : List ℕ} → IsTrue (is_digit hex d) → Digits hex t r → Digits hex (d ∷ underscore ∷ t) r

-- `IntegralPart hex s r`: `s` is digits, after `0x` if `hex` is set, and then `r`.
pub data IntegralPart : Bool → List ℕ → List ℕ → Type 0 where
  decimal : {t r : List ℕ} → Digits false t r → IntegralPart false t r
  hexadecimal : {t r : List ℕ} → Digits true t r → IntegralPart true (48 ∷ 120 ∷ t) r

-- `Fraction hex s r`: `s` is a dot, optional digits, and then `r`.
pub data Fraction : Bool → List ℕ → List ℕ → Type 0 where
  bare : {hex : Bool} {r : List ℕ} → Fraction hex (dot ∷ r) r
  filled : {hex : Bool} {t r : List ℕ} → Digits hex t r → Fraction hex (dot ∷ t) r

-- `Exponent hex s`: `s` is the letter of an exponent, an optional sign, and decimal digits.
pub data Exponent : Bool → List ℕ → Type 0 where
  exponent : {hex : Bool} {c : ℕ} {t : List ℕ} → IsTrue (is_exponent_letter hex c) → Digits false (unsigned t) [] → Exponent hex (c ∷ t)

-- `Tail hex s`: `s` is what follows the integral part of a float: a fraction, an exponent, or both.
pub data Tail : Bool → List ℕ → Type 0 where
  fraction : {hex : Bool} {s : List ℕ} → Fraction hex s [] → Tail hex s
  power : {hex : Bool} {s : List ℕ} → Exponent hex s → Tail hex s
  both : {hex : Bool} {s t : List ℕ} → Fraction hex s t → Exponent hex t → Tail hex s

-- `Decimals hex s`: `s` is a float without sign: an integral part, and a tail that distinguishes it from an integer.
pub data Decimals : Bool → List ℕ → Type 0 where
  decimals : {hex : Bool} {s t : List ℕ} → IntegralPart hex s t → Tail hex t → Decimals hex s

-- `Payload s`: `s` is `nan:0x` and hexadecimal digits.
pub data Payload : List ℕ → Type 0 where
  payload : {s t : List ℕ} → s ≡ codes "nan:0x" ++ t → Digits true t [] → Payload s

-- `Number w kind`: the lexeme `w` is a numeric literal of this kind.
abbrev pub Number : List ℕ → TokenKind → Type 0
Number w (Integer k) = IntegralPart k.hex (unsigned w) [] × (k.sign ≡ sign_of w) × (k.has_underscores ≡ has_underscores w)
Number w (Float (Inf negative)) = (unsigned w ≡ codes "inf") × (negative ≡ is_negative w)
Number w (Float (Nan negative)) = (unsigned w ≡ codes "nan") × (negative ≡ is_negative w)
Number w (Float (NanVal negative underscores)) = Payload (unsigned w) × (negative ≡ is_negative w) × (underscores ≡ has_underscores w)
Number w (Float (Normal underscores hex)) = Decimals hex (unsigned w) × (underscores ≡ has_underscores w)
Number w kind = ⊥
