-- The value of a string's elements, divided into parts.
use Rattle.std.specs.Prelude.{◌≡◌, ◌≢◌, ◌<◌, ◌≤◌, ⊤, ℕ, List, [], ◌∷◌, ◌++◌, Option, Some, None, length, take, drop, encode_utf8}
use Rattle.std.specs.Str.{chars, IsUtf8, IsCharBoundary}
use denote.Ref.{Bor}
use Rattle.wat_lex.specs.values.Names.{IsQuoted}
use Rattle.wat_lex.specs.values.WordValues.{Between, elements_value}
use Rattle.wat_lex.specs.declared.lexer.read.names.Part.{Part}
use Rattle.wat_lex.specs.declared.lexer.read.names.Part.TheVariants.{Text, Byte, Scalar}

-- The value of elements that end with a closing quotation mark.
abbrev pub value_of : List ℕ → List ℕ
value_of elements = elements_value Between (chars elements)

-- The bytes that a part denotes.
abbrev pub part_bytes : Part → List ℕ
part_bytes (Text text) = text.now
part_bytes (Byte byte) = byte ∷ []
part_bytes (Scalar c) = encode_utf8 c

-- A part that is not the escape of a byte is one or more characters.
abbrev pub IsWhole : Part → Type 0
IsWhole (Text text) = IsUtf8 text.now × (text.now ≢ [])
IsWhole (Byte byte) = ⊤
IsWhole (Scalar c) = IsUtf8 (encode_utf8 c) × (encode_utf8 c ≢ [])

-- `Taken elements bytes rest`: the value of the elements is these bytes, and then the value of the shorter `rest`.
pub record Taken (elements bytes rest : List ℕ) : Type 0 where
  pub value : value_of elements ≡ bytes ++ value_of rest
  pub quoted : IsQuoted (chars rest)
  pub utf8 : IsUtf8 rest
  pub shorter : length rest < length elements

-- `PlainBytes elements n`: the first `n` bytes of the elements stand for themselves. If `n` is 0, the value is empty.
pub record PlainBytes (elements : List ℕ) (n : ℕ) : Type 0 where
  pub boundary : IsCharBoundary elements n
  pub value : value_of elements ≡ take n elements ++ value_of (drop n elements)
  pub quoted : IsQuoted (chars (drop n elements))
  pub none : n ≡ 0 → value_of elements ≡ []

-- `IsFirstPart elements found`: `found` is the first part of the elements and their rest, or `None` if the value is
-- empty.
abbrev pub IsFirstPart : List ℕ → Option (Part × Bor (List ℕ)) → Type 0
IsFirstPart elements None = value_of elements ≡ []
IsFirstPart elements (Some found) = Taken elements (part_bytes found.0) found.1.now × IsWhole found.0

-- `EndsCharacters elements`: bytes that are UTF-8 with the value after them are UTF-8 without it, so the value
-- continues no character.
abbrev pub EndsCharacters : List ℕ → Type 0
EndsCharacters elements = (bytes : List ℕ) → IsUtf8 (bytes ++ value_of elements) → IsUtf8 bytes

-- `IsEscapedByte elements found`: the elements begin with the escape of this byte, and then the rest. `None` states
-- that the value continues no character.
abbrev pub IsEscapedByte : List ℕ → Option (ℕ × Bor (List ℕ)) → Type 0
IsEscapedByte elements None = EndsCharacters elements
IsEscapedByte elements (Some found) = Taken elements (found.0 ∷ []) found.1.now

-- `CharactersTaken first elements rest`: the byte `first` and the value of the elements are whole characters, and then
-- the value of `rest`.
pub record CharactersTaken (first : ℕ) (elements rest : List ℕ) : Type 0 where
  pub characters : List ℕ
  pub are_utf8 : IsUtf8 characters
  pub value : first ∷ value_of elements ≡ characters ++ value_of rest
  pub quoted : IsQuoted (chars rest)
  pub utf8 : IsUtf8 rest
  pub shorter : length rest ≤ length elements

-- `IsPastCharacter first elements found`: `found` is the rest of the elements after whole characters, of which the byte
-- `first` is the start, or `None` if this byte and the value are not UTF-8.
abbrev pub IsPastCharacter : ℕ → List ℕ → Option (Bor (List ℕ)) → Type 0
IsPastCharacter first elements None = IsUtf8 (first ∷ value_of elements) → ⊥
IsPastCharacter first elements (Some rest) = CharactersTaken first elements rest.now
