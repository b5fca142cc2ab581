-- Results of the functions that scan numbers.
use Rattle.std.specs.Prelude.{◌≡◌, true, false, Option, Some, None, ◌||◌, ◌==◌, ◌⊎◌, if◌then◌else◌, ℕ, Bool, List, [], ◌∷◌}
use Rattle.wat_lex.specs.grammar.Classes.{Begins, plus, underscore}
use Rattle.wat_lex.specs.declared.lexer.kinds.FloatKind.TheVariants.{NanVal, Normal}
use Rattle.wat_lex.specs.declared.lexer.kinds.TokenKind.{TokenKind}
use Rattle.wat_lex.specs.declared.lexer.kinds.TokenKind.TheVariants.{Integer, Float}
use Rattle.wat_lex.specs.declared.lexer.kinds.Sign.TheVariants as sign
use Rattle.wat_lex.specs.declared.lexer.scan.short.Prefixed.{Prefixed}
use Rattle.wat_lex.specs.declared.lexer.scan.short.Prefixed.TheVariants as prefixed
use Rattle.wat_lex.specs.grammar.Numbers.{Digits, has_underscores, is_digit, IntegralPart, Exponent, Tail}

-- `Stops hex r`: `r` begins with neither a digit nor an underscore.
abbrev pub Stops : Bool → List ℕ → Type 0
Stops hex r = Begins (λ c. is_digit hex c || c == underscore) r → ⊥

-- `LongestDigits hex text rest`: the text is digits, which cannot be extended, and then `rest`.
pub record LongestDigits (hex : Bool) (text rest : List ℕ) : Type 0 where
  pub digits : Digits hex text rest
  pub stops : Stops hex rest

abbrev pub NoDigits : Bool → List ℕ → Type 0
NoDigits hex text = (rest : List ℕ) → LongestDigits hex text rest → ⊥

-- `Follows hex rest`: `rest` may follow the integral part of a number: it is empty, or the tail of a float.
abbrev pub Follows : Bool → List ℕ → Type 0
Follows hex rest = (rest ≡ []) ⊎ Tail hex rest

-- `OnlyIntegralPart hex text rest`: the text is an integral part and then `rest`, and divides in no other way into an
-- integral part and what may follow it.
pub record OnlyIntegralPart (hex : Bool) (text rest : List ℕ) : Type 0 where
  pub integral : IntegralPart hex text rest
  pub only : (k : Bool) (r : List ℕ) → IntegralPart k text r → Follows k r → (k ≡ hex) × (r ≡ rest)

abbrev pub NoIntegralPart : List ℕ → Type 0
NoIntegralPart text = (k : Bool) (r : List ℕ) → IntegralPart k text r → Follows k r → ⊥

-- The characters without a leading `+`.
abbrev pub without_plus : List ℕ → List ℕ
without_plus [] = []
without_plus (c ∷ t) = if c == plus then t else c ∷ t

-- The text `r` is empty or an exponent.
abbrev pub EndsFloat : Bool → List ℕ → Type 0
EndsFloat hex r = (r ≡ []) ⊎ Exponent hex r

-- The text `w` is an exponent without underscores.
abbrev pub PlainExponent : Bool → List ℕ → Type 0
PlainExponent hex w = Exponent hex w × (has_underscores w ≡ false)

-- The text `w` is what follows the integral part of a float, without underscores.
abbrev pub PlainTail : Bool → List ℕ → Type 0
PlainTail hex w = Tail hex w × (has_underscores w ≡ false)

-- The text `w` is the digits of a float and what follows them, without `0x` and underscores.
abbrev pub PlainDecimals : Bool → List ℕ → Type 0
PlainDecimals hex w = (t : List ℕ) × Digits hex w t × Tail hex t × (has_underscores w ≡ false)

-- `IsPlainFloat hex w kind`: `w` is the digits of a float and what follows them, without `0x` and underscores, and has
-- this kind.
abbrev pub IsPlainFloat : Bool → List ℕ → TokenKind → Type 0
IsPlainFloat hex w kind = (kind ≡ Float (Normal false hex)) × PlainDecimals hex w

-- The kind of a lexeme that begins with `0x` or `nan:0x`, if its first block determines it.
abbrev pub prefixed_kind : Prefixed → Option TokenKind
prefixed_kind prefixed.Integer = Some (Integer (record { sign = sign.None; has_underscores = false; hex = true }))
prefixed_kind prefixed.Float = Some (Float (Normal false true))
prefixed_kind prefixed.Payload = Some (Float (NanVal false false))
prefixed_kind prefixed.Other = None
