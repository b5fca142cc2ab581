-- Results of the functions that scan strings, for a text or for the rest of an iterator, in bytes.
use Rattle.std.specs.Prelude.{◌≡◌, ◌≤◌, ◌<◌, ◌+◌, ◌==◌, ◌&&◌, ℕ, Bool, not, true, false, if◌then◌else◌, List, [], ◌∷◌, ◌++◌, length, drop, slice_index, is_some, Result, Ok, Err, encode_utf8}
use Rattle.std.specs.Str.{chars, IsUtf8}
use lib.Utf8.{scalar}
use Rattle.wat_lex.specs.grammar.Classes.{size, quote, backslash, close_brace, is_hex}
use Rattle.wat_lex.specs.grammar.Strings.{Element, Quoted, is_control, letter_value}
use Rattle.wat_lex.specs.inside.Blocks.{leads_at}
use Rattle.wat_lex.specs.tokens.StringFaults.{StringFault}
use Rattle.wat_lex.specs.declared.lexer.settings.Settings.{Settings}
use Rattle.wat_lex.specs.declared.lexer.scan.strings.Broken.{Broken}
use Rattle.wat_lex.specs.declared.lexer.scan.strings.EscapeValue.{EscapeValue}
use Rattle.wat_lex.specs.declared.lexer.scan.strings.EscapeValue.TheVariants.{Byte, Scalar}
use Rattle.wat_lex.specs.declared.lexer.faults.LexError.TheVariants.{LoneUnderscore, InvalidUnicodeValue, Expected}
use Rattle.wat_lex.specs.declared.lexer.faults.LexFault.{LexFault}

-- A byte other than a control character, `"`, `\`, and 0xE2, with which each confusing character begins. From a
-- character boundary up to another byte, such bytes are characters that stand for themselves.
abbrev pub is_plain : ℕ → Bool
is_plain b = (not (is_control b) && not (b == quote)) && (not (b == backslash) && not (b == 0xE2))

-- The bytes that an escape denotes: one byte, or those of a character.
abbrev pub escape_bytes : EscapeValue → List ℕ
escape_bytes (Byte b) = b ∷ []
escape_bytes (Scalar c) = encode_utf8 c

-- `Escaped flags prefix old new value`: the characters `prefix` and then those of `old` are an element with this value,
-- and then the characters of `new`.
pub record Escaped (flags : Settings) (prefix old new value : List ℕ) : Type 0 where
  pub element : Element flags (prefix ++ chars old) value (chars new)
  pub utf8 : IsUtf8 new
  pub shorter : length new ≤ length old

-- `Breaks flags prefix old broken`: the characters `prefix` and then those of `old` have this error of a string; it is
-- reported at the offset from which `broken.left` bytes remain.
pub record Breaks (flags : Settings) (prefix old : List ℕ) (broken : Broken) : Type 0 where
  pub at : List ℕ
  pub fault : StringFault flags (prefix ++ chars old) broken.error at
  pub place : broken.left ≡ size at

-- The text begins with an escape of two hexadecimal digits.
pub record BeginsByteEscape (text : List ℕ) : Type 0 where
  pub long : 3 ≤ length text
  pub mark : slice_index text 0 ≡ backslash
  pub first : is_hex (slice_index text 1) ≡ true
  pub second : is_hex (slice_index text 2) ≡ true

-- The text begins with an escape of one letter.
pub record BeginsLetterEscape (text : List ℕ) : Type 0 where
  pub long : 2 ≤ length text
  pub mark : slice_index text 0 ≡ backslash
  pub letter : is_some (letter_value (slice_index text 1)) ≡ true

-- The text begins with the byte 0xE2, with which a character of three bytes begins, and not with the bytes of a
-- confusing character.
pub record BeginsPunctuation (text : List ℕ) : Type 0 where
  pub long : 3 ≤ length text
  pub lead : slice_index text 0 ≡ 0xE2
  pub clear : leads_at text 0 ≡ false

-- `IsRowValue n underscore last value`: the result for the number `n` of an escape `\u{..}`. It is the error
-- `LoneUnderscore` if the number ends in an underscore, the error `InvalidUnicodeValue` if it is not a scalar value,
-- and the character otherwise. An error is reported at the offset from which `last` bytes remain.
abbrev pub IsRowValue : ℕ → Bool → ℕ → Result ℕ Broken → Type 0
IsRowValue n true last value = value ≡ Err (record { left = last; error = LoneUnderscore })
IsRowValue n false last (Ok c) = (scalar n ≡ true) × (c ≡ n)
IsRowValue n false last (Err broken) = (scalar n ≡ false) × (broken ≡ record { left = last; error = InvalidUnicodeValue n })

-- `Ends c left value result`: the result for the character `c` after the number of an escape `\u{..}`. It is the
-- character `value` if `c` is `}`, and otherwise the error `Expected`, which is reported at the offset from which
-- `left` bytes remain.
abbrev pub Ends : ℕ → ℕ → ℕ → Result EscapeValue Broken → Type 0
Ends c left value result = result ≡ (if c == close_brace then Ok (Scalar value) else Err (record { left = left; error = Expected close_brace c }))

-- `ElementTaken flags text n`: the first `n` bytes of the text are an element of a string.
pub record ElementTaken (flags : Settings) (text : List ℕ) (n : ℕ) : Type 0 where
  pub value : List ℕ
  pub element : Element flags (chars text) value (chars (drop n text))
  pub utf8 : IsUtf8 (drop n text)
  pub some : 0 < n
  pub range : n ≤ length text

-- `StringTaken flags text n`: the first `n` bytes of the text are elements of a string and its closing quotation mark.
pub record StringTaken (flags : Settings) (text : List ℕ) (n : ℕ) : Type 0 where
  pub value : List ℕ
  pub quoted : Quoted flags (chars text) value (chars (drop n text))
  pub utf8 : IsUtf8 (drop n text)
  pub range : n ≤ length text

-- `StringFaultFound flags text f`: the text after an opening quotation mark has the lexical error `f`, whose offset counts
-- from the start of the text.
pub record StringFaultFound (flags : Settings) (text : List ℕ) (f : LexFault) : Type 0 where
  pub at : List ℕ
  pub fault : StringFault flags (chars text) f.error at
  pub place : f.offset + size at ≡ length text
