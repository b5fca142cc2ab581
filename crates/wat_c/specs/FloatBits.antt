-- WebAssembly 2.0, 6.3.2 (floating-point): the bits of a number token's value in a format of IEEE 754. The standard
-- accepts integers as floating-point numbers too. The definitions add the status.
use Rattle.std.specs.Prelude.{◌≡◌, ◌≢◌, ◌⊎◌, ℕ, true, List, Some, None}
use Rattle.std.specs.Float.Ieee.{Format}
use Rattle.wat_floats.specs.Literals.{literal}
use Rattle.wat_lex.specs.grammar.Numbers.{has_underscores}
use Rattle.wat_lex.specs.tokens.ReadableTokens.{token_text}
use Rattle.wat_lex.specs.tokens.Setting.{Setting}
use Rattle.wat_lex.specs.tokens.Tiling.{TokenAt}
use Rattle.wat_lex.specs.declared.lexer.kinds.Token.{Token}
use Rattle.wat_lex.specs.declared.lexer.kinds.TokenKind.{TokenKind}
use Rattle.wat_c.specs.Readings.{IsInteger, IsFloat, OtherAt}

-- `IsNumber kind`: the kind is an integer or a floating-point number.
abbrev pub IsNumber : TokenKind → Type 0
IsNumber kind = IsInteger kind ⊎ IsFloat kind

-- `ReadsBits format word bits status`: the status is 0, and the bits are those of the value of the numeric literal
-- `word`. Otherwise the bits are 0, and the status is 5 if the value is out of range, or 2 after an allocation failure,
-- which is possible only if the literal has underscores.
pub data ReadsBits (format : Format) (word : List ℕ) (bits status : ℕ) : Type 0 where
  given : status ≡ 0 → literal format word ≡ Some bits → ReadsBits format word bits status
  out_of_range : status ≡ 5 → bits ≡ 0 → literal format word ≡ None → ReadsBits format word bits status
  memory : status ≡ 2 → bits ≡ 0 → has_underscores word ≡ true → ReadsBits format word bits status

-- `TellsBits format text t bits status`: the bits of the token's value. If the token is not a number, the bits are 0,
-- and the status is 1.
pub data TellsBits (format : Format) (text : List ℕ) (t : Token) (bits status : ℕ) : Type 0 where
  number : IsNumber t.kind → ReadsBits format (token_text text t) bits status → TellsBits format text t bits status
  other : (IsNumber t.kind → ⊥) → bits ≡ 0 → status ≡ 1 → TellsBits format text t bits status

-- `FindsBits format s p bits status`: the bits of the number at byte `p`. If there is none, the bits are 0, and the
-- status is 1.
pub data FindsBits (format : Format) (s : Setting) (p bits status : ℕ) : Type 0 where
  number : (t : Token) → TokenAt s p t → IsNumber t.kind → ReadsBits format (token_text s.text t) bits status → FindsBits format s p bits status
  other : OtherAt IsNumber s p → bits ≡ 0 → status ≡ 1 → FindsBits format s p bits status

-- `OneBits Tells`: any two results that are not allocation failures are equal, in the bits and the status.
unfoldable pub OneBits : (ℕ → ℕ → Type 0) → Type 0
OneBits Tells = (bits other status known : ℕ) → Tells bits status → Tells other known → status ≢ 2 → known ≢ 2 → (bits ≡ other) × (status ≡ known)
