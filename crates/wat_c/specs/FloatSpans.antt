-- WebAssembly 2.0, 6.3.2 (floating-point): the ranges of the text that are the parts of a floating-point number. The
-- status and the empty range are not part of the standard.
use Rattle.std.specs.Prelude.{◌≡◌, ◌⊎◌, ℕ, ◌+◌, ◌-◌, ◌==◌, Bool, false, List, [], ◌∷◌, length, take, drop, Option, Some, None, if◌then◌else◌}
use Rattle.wat_lex.specs.grammar.Classes.{plus}
use Rattle.wat_lex.specs.grammar.Numbers.{unsigned, is_negative}
use Rattle.wat_lex.specs.tokens.ReadableTokens.{word_of}
use Rattle.wat_lex.specs.values.NumberValues.{after_prefix, FloatParts}
use Rattle.wat_lex.specs.declared.lexer.kinds.FloatKind.TheVariants.{Inf, Nan, NanVal, Normal}
use Rattle.wat_lex.specs.declared.lexer.kinds.Token.{Token}
use Rattle.wat_lex.specs.declared.lexer.kinds.TokenKind.TheVariants.{Float}
use Rattle.wat_c.specs.Readings.{IsFloat}
use Rattle.wat_c.specs.declared.float_parts.Parts.{Parts}
use Rattle.wat_c.specs.declared.float_parts.Span.{Span}

-- The range of a part that the number does not have.
abbrev pub nowhere : Span
nowhere = record { start = 0; len = 0 }

-- The range of these digits, which end before byte `end`.
abbrev pub before : ℕ → List ℕ → Span
before end digits = record { start = end - length digits; len = length digits }

abbrev pub optional_before : ℕ → Option (List ℕ) → Span
optional_before end None = nowhere
optional_before end (Some digits) = before end digits

-- The number of bytes of a fraction, without its dot.
abbrev pub fraction_len : Option (List ℕ) → ℕ
fraction_len None = 0
fraction_len (Some digits) = length digits

-- The digits of an exponent, without a leading `+`.
abbrev pub without_plus : List ℕ → List ℕ
without_plus [] = []
without_plus (c ∷ t) = if c == plus then t else c ∷ t

abbrev pub exponent_digits : Option (List ℕ) → Option (List ℕ)
exponent_digits None = None
exponent_digits (Some power) = Some (without_plus power)

-- `AreParts hex word offset parts`: the lexeme `word` at byte `offset` is an integral part, a fraction and an exponent,
-- and the ranges are those of their digits. The integral part is without its sign and `0x`, and the exponent without
-- `+`.
pub record AreParts (hex : Bool) (word : List ℕ) (offset : ℕ) (parts : Parts) : Type 0 where
  pub leading : List ℕ
  pub fraction : Option (List ℕ)
  pub power : Option (List ℕ)
  pub cut : FloatParts hex word leading fraction power
  pub integral : parts.integral ≡ before (offset + length leading) (after_prefix hex (unsigned leading))
  pub fractional : parts.fractional ≡ optional_before (offset + length leading + 1 + fraction_len fraction) fraction
  pub exponent : parts.exponent ≡ optional_before (offset + length word) (exponent_digits power)
  pub payload : parts.payload ≡ nowhere
  pub negative : parts.negative ≡ is_negative word
  pub status : parts.status ≡ 0

-- `IsAt text digits span`: the bytes of the text in the range are these digits.
abbrev pub IsAt : List ℕ → List ℕ → Span → Type 0
IsAt text digits span = take span.len (drop span.start text) ≡ digits

abbrev pub IsOptionalAt : List ℕ → Option (List ℕ) → Span → Type 0
IsOptionalAt text None span = Unit {0}
IsOptionalAt text (Some digits) span = IsAt text digits span

-- `AreThere hex text leading fraction power parts`: the bytes of the text in the ranges are the digits of these parts.
pub record AreThere (hex : Bool) (text leading : List ℕ) (fraction power : Option (List ℕ)) (parts : Parts) : Type 0 where
  pub integral : IsAt text (after_prefix hex (unsigned leading)) parts.integral
  pub fractional : IsOptionalAt text fraction parts.fractional
  pub exponent : IsOptionalAt text (exponent_digits power) parts.exponent

-- The result with no part except, possibly, a payload.
abbrev pub only_payload : Span → Bool → ℕ → Parts
only_payload payload negative status = record {
  integral = nowhere;
  fractional = nowhere;
  exponent = nowhere;
  payload = payload;
  status = status;
  negative = negative;
}

-- `TellsParts text t parts`: the ranges of the parts of a floating-point number. An infinity and a NaN without a payload
-- have none. If the token is another one, the status is 1.
pub data TellsParts (text : List ℕ) (t : Token) (parts : Parts) : Type 0 where
  decimals : (underscores hex : Bool) → t.kind ≡ Float (Normal underscores hex) → (are : AreParts hex (word_of text t) t.offset parts)
      → AreThere hex text are.leading are.fraction are.power parts → TellsParts text t parts
  payload : (negative underscores : Bool) → t.kind ≡ Float (NanVal negative underscores)
      → parts ≡ only_payload (before (t.offset + t.len) (drop 6 (unsigned (word_of text t)))) negative 0
      → IsAt text (drop 6 (unsigned (word_of text t))) parts.payload → TellsParts text t parts
  bare : (negative : Bool) → (t.kind ≡ Float (Inf negative)) ⊎ (t.kind ≡ Float (Nan negative)) → parts ≡ only_payload nowhere negative 0 → TellsParts text t parts
  other : (IsFloat t.kind → ⊥) → parts ≡ only_payload nowhere false 1 → TellsParts text t parts

-- Theorem: the ranges for a token are unique.
unfoldable pub OneParts : List ℕ → Token → Type 0
OneParts text t = (parts other : Parts) → TellsParts text t parts → TellsParts text t other → parts ≡ other
