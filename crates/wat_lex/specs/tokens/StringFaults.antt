-- WebAssembly 2.0, 6.3.3 (strings): the errors inside a string. Valid elements come first, and then one of the cases
-- below. Each gives the error, and the rest of the text from the offset where it is reported.
use Rattle.std.specs.Prelude.{◌≡◌, ◌≢◌, ◌≤◌, ◌^◌, ℕ, true, false, List, [], ◌∷◌, ◌++◌, IsTrue, None}
use Rattle.std.specs.Char.{IsScalar}
use Rattle.wat_lex.specs.grammar.Classes.{backslash, underscore, letter_u, open_brace, close_brace, is_hex, is_confusing, Begins}
use Rattle.wat_lex.specs.grammar.Strings.{is_control, letter_value, is_hex_or_underscore, hex_value, EndsInUnderscore, HexRow, Element}
use Rattle.wat_lex.specs.declared.lexer.settings.Settings.{Settings}
use Rattle.wat_lex.specs.declared.lexer.faults.LexError.{LexError}
use Rattle.wat_lex.specs.declared.lexer.faults.LexError.TheVariants.{InvalidStringElement, InvalidStringEscape, InvalidHexDigit, Expected, UnexpectedEof, NumberTooBig, InvalidUnicodeValue, LoneUnderscore, ConfusingUnicode}

-- `NumberFault flags d s e at`: in the escape `\u{..}` with the first digit `d`, the text `s` after `d` has the error
-- `e`, which is reported at the rest `at`.
pub data NumberFault : Settings → ℕ → List ℕ → LexError → List ℕ → Type 0 where
  -- With the digit `e` the value exceeds 2^32-1.
  too_big : {flags : Settings} {d e : ℕ} {s t : List ℕ} (ds : List ℕ) → s ≡ ds ++ e ∷ t → HexRow flags d ds → IsTrue (is_hex e) → 2 ^ 32 ≤ hex_value (d ∷ ds ++ e ∷ []) → NumberFault flags d s NumberTooBig (e ∷ t)
  -- An underscore follows another one directly, and `strict` is set.
  doubled : {flags : Settings} {d : ℕ} {s t : List ℕ} (ds : List ℕ) → s ≡ ds ++ underscore ∷ t → HexRow flags d ds → flags.strict ≡ true → EndsInUnderscore ds → NumberFault flags d s LoneUnderscore (underscore ∷ t)
  -- The digits and underscores end in an underscore.
  lone : {flags : Settings} {d : ℕ} {s t : List ℕ} (ds : List ℕ) → s ≡ ds ++ underscore ∷ t → HexRow flags d ds → (Begins is_hex_or_underscore t → ⊥) → NumberFault flags d s LoneUnderscore (underscore ∷ t)
  -- The digits and underscores end in the digit `e`, and their value is not a Unicode scalar value.
  no_scalar : {flags : Settings} {d e : ℕ} {s t : List ℕ} (ds : List ℕ) → s ≡ ds ++ e ∷ t → HexRow flags d (ds ++ e ∷ []) → IsTrue (is_hex e) → (Begins is_hex_or_underscore t → ⊥)
      → (IsScalar (hex_value (d ∷ ds ++ e ∷ [])) → ⊥) → NumberFault flags d s (InvalidUnicodeValue (hex_value (d ∷ ds ++ e ∷ []))) (e ∷ t)
  -- A character other than `}` follows the digits and underscores.
  no_brace : {flags : Settings} {d c : ℕ} {s t : List ℕ} (ds : List ℕ) → s ≡ ds ++ c ∷ t → HexRow flags d ds → (EndsInUnderscore ds → ⊥) → IsScalar (hex_value (d ∷ ds))
      → (IsTrue (is_hex_or_underscore c) → ⊥) → c ≢ close_brace → NumberFault flags d s (Expected close_brace c) (c ∷ t)
  -- The text ends after the digits and underscores.
  no_more : {flags : Settings} {d : ℕ} {s : List ℕ} → HexRow flags d s → (EndsInUnderscore s → ⊥) → IsScalar (hex_value (d ∷ s)) → NumberFault flags d s UnexpectedEof []

-- `StringFault flags s e at`: the text `s` after the opening quotation mark of a string has the error `e`, which is
-- reported at the rest `at`.
pub data StringFault : Settings → List ℕ → LexError → List ℕ → Type 0 where
  later : {flags : Settings} {s t u at : List ℕ} {e : LexError} → Element flags s u t → StringFault flags t e at → StringFault flags s e at
  no_quote : {flags : Settings} → StringFault flags [] UnexpectedEof []
  control : {flags : Settings} {c : ℕ} {t : List ℕ} → IsTrue (is_control c) → StringFault flags (c ∷ t) (InvalidStringElement c) (c ∷ t)
  confusing : {flags : Settings} {c : ℕ} {t : List ℕ} → flags.allow ≡ false → IsTrue (is_confusing c) → StringFault flags (c ∷ t) (ConfusingUnicode c) (c ∷ t)
  no_escape : {flags : Settings} → StringFault flags (backslash ∷ []) UnexpectedEof []
  bad_escape : {flags : Settings} {c : ℕ} {t : List ℕ} → letter_value c ≡ None → (IsTrue (is_hex c) → ⊥) → c ≢ letter_u → StringFault flags (backslash ∷ c ∷ t) (InvalidStringEscape c) (c ∷ t)
  no_second : {flags : Settings} {c : ℕ} → IsTrue (is_hex c) → StringFault flags (backslash ∷ c ∷ []) UnexpectedEof []
  bad_second : {flags : Settings} {c d : ℕ} {t : List ℕ} → IsTrue (is_hex c) → (IsTrue (is_hex d) → ⊥) → StringFault flags (backslash ∷ c ∷ d ∷ t) (InvalidHexDigit d) (d ∷ t)
  no_open : {flags : Settings} → StringFault flags (backslash ∷ letter_u ∷ []) UnexpectedEof []
  bad_open : {flags : Settings} {c : ℕ} {t : List ℕ} → c ≢ open_brace → StringFault flags (backslash ∷ letter_u ∷ c ∷ t) (Expected open_brace c) (c ∷ t)
  no_digit : {flags : Settings} → StringFault flags (backslash ∷ letter_u ∷ open_brace ∷ []) UnexpectedEof []
  bad_digit : {flags : Settings} {c : ℕ} {t : List ℕ} → (IsTrue (is_hex c) → ⊥) → StringFault flags (backslash ∷ letter_u ∷ open_brace ∷ c ∷ t) (InvalidHexDigit c) (c ∷ t)
  number : {flags : Settings} {d : ℕ} {s at : List ℕ} {e : LexError} → IsTrue (is_hex d) → NumberFault flags d s e at → StringFault flags (backslash ∷ letter_u ∷ open_brace ∷ d ∷ s) e at
