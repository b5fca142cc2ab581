-- WebAssembly 2.0, 5.1.3 (vectors) and 5.2.4 (names): the encoding of a list or a text begins with its length.
use Rattle.std.specs.Prelude.{ℕ, ◌^◌, ◌<◌, ◌≤◌, List, String, Vec, ◌++◌, length, string_bytes, All}
use Rattle.std.specs.List.{flat_map}
use Rattle.wat_lex.specs.binary.Leb128.{unsigned_leb128}

-- The encoding of a list: the number of its items, and then the encoding of each item.
abbrev pub list_encoding : {T : Type 0} → (T → List ℕ) → List T → List ℕ
list_encoding item items = unsigned_leb128 (length items) ++ flat_map item items

-- `ListFits item items`: the list has fewer than 2^32 items, and each of them satisfies `item`.
abbrev pub ListFits : {T : Type 0} → (T → Type 0) → List T → Type 0
ListFits item items = (length items < 2 ^ 32) × All item items

-- The text has fewer than 2^32 bytes.
abbrev pub TextFits : List ℕ → Type 0
TextFits bytes = length bytes < 2 ^ 32

-- The text has 2^32 or more bytes.
abbrev pub TextTooLong : List ℕ → Type 0
TextTooLong bytes = 2 ^ 32 ≤ length bytes

-- The encoding of a text: the number of its bytes, and then the bytes.
abbrev pub text_encoding : List ℕ → List ℕ
text_encoding bytes = unsigned_leb128 (length bytes) ++ bytes

-- The encoding of a `Vec`, which is that of the list of its items.
abbrev pub vec_encoding : {T Z : Type 0} → (T → List ℕ) → Vec T Z → List ℕ
vec_encoding item list = list_encoding item list.items

-- The encoding of a `String`, which is that of its text.
abbrev pub string_encoding : {Z : Type 0} → String Z → List ℕ
string_encoding text = text_encoding (string_bytes text)

-- The `String` has fewer than 2^32 bytes.
abbrev pub StringFits : {Z : Type 0} → String Z → Type 0
StringFits text = TextFits (string_bytes text)

-- The `String` has 2^32 or more bytes.
abbrev pub StringTooLong : {Z : Type 0} → String Z → Type 0
StringTooLong text = TextTooLong (string_bytes text)
