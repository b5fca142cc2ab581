-- WebAssembly 2.0, 6.3.1 (integers) and 6.3.2 (floating-point): the values of numeric literals. Digits are ASCII, so
-- the bytes of a text of digits are its characters.
use Rattle.std.specs.Prelude.{◌≡◌, ℕ, Bool, true, false, not, ◌||◌, ◌==◌, if◌then◌else◌, Option, Some, None, List, [], ◌∷◌, ◌++◌, drop, IsTrue}
use Rattle.std.specs.List.{filter}
use Rattle.std.specs.Option.{option_map}
use Rattle.std.specs.Str.Parse.{IsNumeral, without_leading_sign, digits_value}
use Rattle.std.specs.Cow.{cow_str_bytes, IsBorrowedStr, IsOwnedStr}
use Rattle.std.specs.declared.borrow.CowStr.{CowStr}
use Rattle.wat_lex.specs.grammar.Classes.{underscore, minus, dot}
use Rattle.wat_lex.specs.grammar.Numbers.{sign_token, unsigned, is_negative, is_exponent_letter, Digits, IntegralPart}
use Rattle.wat_lex.specs.declared.lexer.kinds.IntegerKind.{IntegerKind}
use Rattle.wat_lex.specs.declared.lexer.kinds.SignToken.{SignToken}
use Rattle.wat_lex.specs.declared.lexer.kinds.FloatKind.{FloatKind}
use Rattle.wat_lex.specs.declared.lexer.kinds.FloatKind.TheVariants as kind
use Rattle.wat_lex.specs.declared.lexer.read.numbers.Integer.{Integer}
use Rattle.wat_lex.specs.declared.lexer.read.numbers.Float.{Float}
use Rattle.wat_lex.specs.declared.lexer.read.numbers.Float.TheVariants as value

-- The characters of `s` without underscores.
abbrev pub joined : List ℕ → List ℕ
joined s = filter (λ c. not (c == underscore)) s

-- The characters of `s` after `0x` if `hex` is set, and otherwise all of them.
abbrev pub after_prefix : Bool → List ℕ → List ℕ
after_prefix true s = drop 2 s
after_prefix false s = s

-- The digits of a literal without sign, `0x` and underscores.
abbrev pub bare_digits : Bool → List ℕ → List ℕ
bare_digits hex w = joined (after_prefix hex (unsigned w))

-- The digits of a literal without `0x` and underscores, after a `-` if it is negative.
abbrev pub number_text : Bool → List ℕ → List ℕ
number_text hex w = if is_negative w then minus ∷ bare_digits hex w else bare_digits hex w

abbrev pub base : Bool → ℕ
base true = 16
base false = 10

-- The absolute value of an integer literal.
abbrev pub integer_value : Bool → List ℕ → ℕ
integer_value hex w = digits_value (base hex) (bare_digits hex w)

-- The digits after `nan:0x`, without underscores.
abbrev pub payload_text : List ℕ → List ℕ
payload_text w = joined (drop 6 (unsigned w))

-- `Point hex s digits r`: `s` is a fraction with these digits as written, and then `r`. The digits are `None` without a
-- dot, or without a digit after it.
pub data Point : Bool → List ℕ → Option (List ℕ) → List ℕ → Type 0 where
  no_point : {hex : Bool} {r : List ℕ} → Point hex r None r
  bare : {hex : Bool} {r : List ℕ} → Point hex (dot ∷ r) None r
  filled : {hex : Bool} {t d r : List ℕ} → t ≡ d ++ r → Digits hex d [] → Point hex (dot ∷ t) (Some d) r

-- `Power hex s e`: `s` is an exponent that is `e` after its letter, as written, or is empty if `e` is `None`.
pub data Power : Bool → List ℕ → Option (List ℕ) → Type 0 where
  no_power : {hex : Bool} → Power hex [] None
  present : {hex : Bool} {c : ℕ} {t : List ℕ} → IsTrue (is_exponent_letter hex c) → Digits false (unsigned t) [] → Power hex (c ∷ t) (Some t)

-- `FloatParts hex word leading fraction exponent`: the float literal `word` is the integral part `leading` with its
-- sign, the fraction, and the exponent, each as written.
pub record FloatParts (hex : Bool) (word leading : List ℕ) (fraction exponent : Option (List ℕ)) : Type 0 where
  pub tail : List ℕ
  pub rest : List ℕ
  pub cut : word ≡ leading ++ tail
  pub first : IntegralPart hex (unsigned leading) []
  pub point : Point hex tail fraction rest
  pub power : Power hex rest exponent

-- `IsText rewritten digits text`: the text has these digits. It is owned if `rewritten` is set, and borrowed otherwise.
abbrev pub IsText : {Z : Type 0} → Bool → List ℕ → CowStr Z → Type 0
IsText true digits text = (cow_str_bytes text ≡ digits) × IsOwnedStr text
IsText false digits text = (cow_str_bytes text ≡ digits) × IsBorrowedStr text

abbrev pub IsOptionalText : {Z : Type 0} → Bool → Option (List ℕ) → Option (CowStr Z) → Type 0
IsOptionalText again None None = Unit {0}
IsOptionalText again (Some digits) (Some text) = IsText again digits text
IsOptionalText again digits text = ⊥

-- `true` if reading an integer rewrites its digits, because they have underscores or follow `0x`.
abbrev pub is_integer_rewritten : IntegerKind → Bool
is_integer_rewritten kind = kind.hex || kind.has_underscores

-- An integer as callers see it: its sign, its digits after a `-` if it is negative, and their base.
abbrev pub integer_sign : Integer → Option SignToken
integer_sign integer = integer.sign

abbrev pub integer_digits : Integer → List ℕ
integer_digits integer = cow_str_bytes integer.digits

abbrev pub integer_base : Integer → ℕ
integer_base integer = base integer.hex

-- `IsIntegerOf kind word integer`: `integer` is the value of the literal `word`. Its digits are borrowed if they have
-- neither underscores nor `0x`, and otherwise rewritten.
pub record IsIntegerOf (kind : IntegerKind) (word : List ℕ) (integer : Integer) : Type 0 where
  pub sign : integer.sign ≡ sign_token kind.sign
  pub digits : IsText (is_integer_rewritten kind) (number_text kind.hex word) integer.digits
  pub hex : integer.hex ≡ kind.hex

-- `IsNumeralOf kind word integer`: the digits of the integer are a numeral in its base, with the absolute value of the
-- literal `word`.
pub record IsNumeralOf (kind : IntegerKind) (word : List ℕ) (integer : Integer) : Type 0 where
  pub numeral : IsNumeral (integer_base integer) (without_leading_sign (integer_digits integer))
  pub value : digits_value (integer_base integer) (without_leading_sign (integer_digits integer)) ≡ integer_value kind.hex word

-- `IsDecimalsOf hex underscores word integral fractional exponent`: these are the parts of the float literal `word`.
-- Each is rewritten if the literal has underscores; the integral part is also rewritten if it is hexadecimal.
pub record IsDecimalsOf {Z : Type 0} (hex underscores : Bool) (word : List ℕ) (integral : CowStr Z) (fractional exponent : Option (CowStr Z)) : Type 0 where
  pub leading : List ℕ
  pub fraction : Option (List ℕ)
  pub power : Option (List ℕ)
  pub parts : FloatParts hex word leading fraction power
  pub integral_is : IsText (hex || underscores) (number_text hex leading) integral
  pub fractional_is : IsOptionalText underscores (option_map joined fraction) fractional
  pub exponent_is : IsOptionalText underscores (option_map (number_text false) power) exponent

abbrev pub IsFloatOf : FloatKind → List ℕ → Float → Type 0
IsFloatOf (kind.Inf n) w (value.Inf m) = m ≡ n
IsFloatOf (kind.Nan n) w (value.Nan None m) = m ≡ n
IsFloatOf (kind.NanVal n underscores) w (value.Nan (Some val) m) = IsText underscores (payload_text w) val × (m ≡ n)
IsFloatOf (kind.Normal underscores hex) w (value.Val h integral fractional exponent) = (h ≡ hex) × IsDecimalsOf hex underscores w integral fractional exponent
IsFloatOf kind w float = ⊥

-- `true` if reading a float of this kind rewrites one of its parts.
abbrev pub is_float_rewritten : FloatKind → Bool
is_float_rewritten (kind.Inf n) = false
is_float_rewritten (kind.Nan n) = false
is_float_rewritten (kind.NanVal n underscores) = underscores
is_float_rewritten (kind.Normal underscores hex) = hex || underscores
