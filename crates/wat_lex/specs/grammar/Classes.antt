-- WebAssembly 2.0, 6.2.1 (characters), 6.2.2 (tokens), 6.2.3 (whitespace) and 6.3.5 (identifiers): the classes of
-- characters, and predicates on lists of characters.
use Rattle.std.specs.Prelude.{ℕ, Bool, true, false, ◌||◌, ◌==◌, List, [], ◌∷◌, codes, length, encode_utf8_all, IsTrue}
use Rattle.std.specs.Char.{is_ascii_alphanumeric, is_ascii_hexdigit, char_set_contains}
use Rattle.std.specs.Str.{NonePass}

abbrev pub line_feed : ℕ
line_feed = 10

abbrev pub carriage_return : ℕ
carriage_return = 13

abbrev pub quote : ℕ
quote = 34

abbrev pub dollar : ℕ
dollar = 36

abbrev pub open_paren : ℕ
open_paren = 40

abbrev pub close_paren : ℕ
close_paren = 41

abbrev pub plus : ℕ
plus = 43

abbrev pub minus : ℕ
minus = 45

abbrev pub dot : ℕ
dot = 46

abbrev pub semicolon : ℕ
semicolon = 59

abbrev pub at_sign : ℕ
at_sign = 64

abbrev pub backslash : ℕ
backslash = 92

abbrev pub underscore : ℕ
underscore = 95

abbrev pub letter_u : ℕ
letter_u = 117

abbrev pub open_brace : ℕ
open_brace = 123

abbrev pub close_brace : ℕ
close_brace = 125

-- WebAssembly 2.0, 6.2.3: a whitespace character is a space, LF, CR or TAB.
abbrev pub is_whitespace : ℕ → Bool
is_whitespace c = char_set_contains (32 ∷ line_feed ∷ carriage_return ∷ 9 ∷ []) c

abbrev pub is_line_end : ℕ → Bool
is_line_end c = char_set_contains (line_feed ∷ carriage_return ∷ []) c

abbrev pub is_idchar : ℕ → Bool
is_idchar c = is_ascii_alphanumeric c || char_set_contains (codes "!#$%&'*+-./:<=>?@\\^_`|~") c

abbrev pub is_hex : ℕ → Bool
is_hex c = is_ascii_hexdigit c

-- The characters `,`, `[`, `]`, `{` and `}`, each of which is a reserved token by itself. So is `;`, which
-- `Punctuation` adds.
abbrev pub is_punctuation : ℕ → Bool
is_punctuation c = char_set_contains (codes ",[]{}") c

-- A character that begins an element of a run: an idchar, or the quotation mark of a string.
abbrev pub is_run_char : ℕ → Bool
is_run_char c = is_idchar c || c == quote

-- The 9 confusing characters: U+202A, U+202B, U+202D, U+202E, U+2066 to U+2069 and U+206C. They can make a text appear
-- different from what it is. The standard allows them; the lexer rejects them in comments and strings, unless its flag
-- `allow` is set.
abbrev pub is_confusing : ℕ → Bool
is_confusing c = char_set_contains (0x202A ∷ 0x202B ∷ 0x202D ∷ 0x202E ∷ 0x2066 ∷ 0x2067 ∷ 0x2068 ∷ 0x2069 ∷ 0x206C ∷ []) c

-- `Each p cs`: every character of `cs` passes the test `p`.
abbrev pub Each : (ℕ → Bool) → List ℕ → Type 0
Each p [] = Unit {0}
Each p (c ∷ cs) = IsTrue (p c) × Each p cs

-- `Begins p cs`: `cs` is not empty, and its first character passes the test `p`.
abbrev pub Begins : (ℕ → Bool) → List ℕ → Type 0
Begins p [] = ⊥
Begins p (c ∷ cs) = IsTrue (p c)

-- `IsClear allow w`: `w` has no confusing character, unless `allow` is set.
abbrev pub IsClear : Bool → List ℕ → Type 0
IsClear true w = Unit {0}
IsClear false w = NonePass is_confusing w

-- The length in bytes of the UTF-8 encoding of the characters.
abbrev pub size : List ℕ → ℕ
size cs = length (encode_utf8_all cs)
