-- The messages of lexical errors, in bytes. The standard has none.
use Rattle.std.specs.Prelude.{◌==◌, ◌&&◌, nat_le, false, ℕ, List, [], ◌∷◌, ◌++◌, codes, if◌then◌else◌}
use Rattle.std.specs.Fmt.{digits}
use Rattle.wat_lex.specs.grammar.Classes.{line_feed, carriage_return, backslash}
use Rattle.wat_lex.specs.declared.lexer.faults.LexError.{LexError}
use Rattle.wat_lex.specs.declared.lexer.faults.LexError.TheVariants.{DanglingBlockComment, Unexpected, InvalidStringElement, InvalidStringEscape, InvalidHexDigit, InvalidDigit, Expected, UnexpectedEof, NumberTooBig, InvalidUnicodeValue, LoneUnderscore, ConfusingUnicode, InvalidUtf8Id, EmptyId, EmptyAnnotation}

-- The integer in lower-case hexadecimal digits, without leading zeros.
abbrev pub lower_hex : ℕ → List ℕ
lower_hex n = digits 16 false n

-- The character as an escape `\u{..}`.
abbrev pub unicode_escape : ℕ → List ℕ
unicode_escape c = codes "\\u{" ++ lower_hex c ++ codes "}"

-- A character in a message: TAB, CR, LF, `\` and `'` by their escapes, other characters from 0x20 to 0x7E unchanged,
-- and all others as `\u{..}`.
abbrev pub escaped_char : ℕ → List ℕ
escaped_char c =
    if c == 9 then codes "\\t"
    else if c == carriage_return then codes "\\r"
    else if c == line_feed then codes "\\n"
    else if c == backslash then codes "\\\\"
    else if c == 39 then codes "\\'"
    else if nat_le 0x20 c && nat_le c 0x7E then c ∷ []
    else unicode_escape c

abbrev pub quoted_char : ℕ → List ℕ
quoted_char c = codes "'" ++ escaped_char c ++ codes "'"

abbrev pub message : LexError → List ℕ
message DanglingBlockComment = codes "unterminated block comment"
message (Unexpected c) = codes "unexpected character " ++ quoted_char c
message (InvalidStringElement c) = codes "invalid character in string " ++ quoted_char c
message (InvalidStringEscape c) = codes "invalid string escape " ++ quoted_char c
message (InvalidHexDigit c) = codes "invalid hex digit " ++ quoted_char c
message (InvalidDigit c) = codes "invalid decimal digit " ++ quoted_char c
message (Expected w f) = (codes "expected " ++ quoted_char w) ++ (codes " but found " ++ quoted_char f)
message UnexpectedEof = codes "unexpected end-of-file"
message NumberTooBig = codes "number is too big to parse"
message (InvalidUnicodeValue n) = codes "invalid unicode scalar value 0x" ++ lower_hex n
message LoneUnderscore = codes "bare underscore in numeric literal"
message (ConfusingUnicode c) = codes "likely-confusing unicode character found '" ++ unicode_escape c ++ codes "'"
message InvalidUtf8Id = codes "malformed UTF-8 encoding of string-based id"
message EmptyId = codes "empty identifier"
message EmptyAnnotation = codes "empty annotation id"
