-- WebAssembly 2.0, 6.3.3 (strings): a string is a quotation mark, elements, and a quotation mark. Its value is the
-- joined bytes of its elements. If the flag `strict` is set, the number of an escape `\u{..}` is that of the standard;
-- otherwise it may have several underscores in a row.
use Rattle.std.specs.Prelude.{◌≡◌, ◌≢◌, ◌<◌, ◌+◌, ◌*◌, ◌^◌, ℕ, Bool, true, not, ◌&&◌, ◌||◌, ◌==◌, nat_lt, List, [], ◌∷◌, ◌++◌, IsTrue, Option, Some, None, if◌then◌else◌, encode_utf8}
use Rattle.std.specs.Char.{IsScalar, digit_value}
use Rattle.std.specs.Str.Parse.{digits_value}
use Rattle.std.specs.List.{filter}
use Rattle.wat_lex.specs.grammar.Classes.{quote, backslash, underscore, letter_u, open_brace, close_brace, is_hex, is_confusing, Each}
use Rattle.wat_lex.specs.declared.lexer.settings.Settings.{Settings}

abbrev pub is_control : ℕ → Bool
is_control c = nat_lt c 0x20 || c == 0x7F

-- A character that stands for itself. Confusing characters do so only if the flag `allow` is set.
abbrev pub is_raw : Settings → ℕ → Bool
is_raw flags c = (not (is_control c) && not (c == quote) && not (c == backslash)) && (flags.allow || not (is_confusing c))

-- The byte that an escape of a backslash and this character denotes.
abbrev pub letter_value : ℕ → Option ℕ
letter_value c =
    if (c == quote || c == 39) || c == backslash then Some c
    else if c == 116 then Some 9
    else if c == 110 then Some 10
    else if c == 114 then Some 13
    else None

abbrev pub is_hex_or_underscore : ℕ → Bool
is_hex_or_underscore c = is_hex c || c == underscore

-- The value of hexadecimal digits, without the underscores between them.
abbrev pub hex_value : List ℕ → ℕ
hex_value ds = digits_value 16 (filter is_hex ds)

-- No two underscores of `ds` are adjacent.
abbrev pub IsParted : List ℕ → Type 0
IsParted ds = (prefix back : List ℕ) → ds ≢ prefix ++ underscore ∷ underscore ∷ back

-- The last character of `ds` is an underscore.
abbrev pub EndsInUnderscore : List ℕ → Type 0
EndsInUnderscore ds = (prefix : List ℕ) × (ds ≡ prefix ++ underscore ∷ [])

-- `HexRow flags d ds`: `d` is a hexadecimal digit, `ds` are digits and underscores, and their value is below 2^32. If
-- `strict` is set, no two underscores are adjacent.
pub record HexRow (flags : Settings) (d : ℕ) (ds : List ℕ) : Type 0 where
  pub first : IsTrue (is_hex d)
  pub others : Each is_hex_or_underscore ds
  pub small : hex_value (d ∷ ds) < 2 ^ 32
  pub parted : flags.strict ≡ true → IsParted ds

-- WebAssembly 2.0, 6.3.3 (`stringelem`). `Element flags s v r`: `s` is an element of a string with the value `v`, and
-- then `r`.
pub data Element : Settings → List ℕ → List ℕ → List ℕ → Type 0 where
  raw : {flags : Settings} {c : ℕ} {r : List ℕ} → IsTrue (is_raw flags c) → Element flags (c ∷ r) (encode_utf8 c) r
  letter : {flags : Settings} {c v : ℕ} {r : List ℕ} → letter_value c ≡ Some v → Element flags (backslash ∷ c ∷ r) (v ∷ []) r
  byte : {flags : Settings} {c d : ℕ} {r : List ℕ} → IsTrue (is_hex c) → IsTrue (is_hex d) → Element flags (backslash ∷ c ∷ d ∷ r) ((16 * digit_value c + digit_value d) ∷ []) r
  unicode : {flags : Settings} {d : ℕ} {s r : List ℕ} (ds : List ℕ) → s ≡ ds ++ close_brace ∷ r → HexRow flags d ds → (EndsInUnderscore ds → ⊥) → IsScalar (hex_value (d ∷ ds))
      → Element flags (backslash ∷ letter_u ∷ open_brace ∷ d ∷ s) (encode_utf8 (hex_value (d ∷ ds))) r

-- `Quoted flags s v r`: `s` is elements with the joined value `v`, a closing quotation mark, and then `r`.
pub data Quoted : Settings → List ℕ → List ℕ → List ℕ → Type 0 where
  ends : {flags : Settings} {r : List ℕ} → Quoted flags (quote ∷ r) [] r
  more : {flags : Settings} {s t u v r : List ℕ} → Element flags s u t → Quoted flags t v r → Quoted flags s (u ++ v) r

-- `StringWord flags w v`: the lexeme `w` is a string with the value `v`.
pub data StringWord : Settings → List ℕ → List ℕ → Type 0 where
  quoted : {flags : Settings} {t v : List ℕ} → Quoted flags t v [] → StringWord flags (quote ∷ t) v
