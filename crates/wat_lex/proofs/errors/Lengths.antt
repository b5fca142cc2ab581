-- How long a message can be.
use Rattle.std.proofs.Common.{◌≤◌, ℕ, List, ◌++◌, length, arith, length-append}
use Rattle.std.specs.Prelude.{◌==◌, ◌&&◌, nat_le, codes}
use Rattle.wat_lex.specs.errors.Messages.{lower_hex, unicode_escape, escaped_char, quoted_char, message}
use Rattle.wat_lex.specs.declared.lexer.faults.LexError.{LexError}
use Rattle.wat_lex.specs.declared.lexer.faults.LexError.TheVariants.{DanglingBlockComment, Unexpected, InvalidStringElement, InvalidStringEscape, InvalidHexDigit, InvalidDigit, Expected, UnexpectedEof, NumberTooBig, InvalidUnicodeValue, LoneUnderscore, ConfusingUnicode, InvalidUtf8Id, EmptyId, EmptyAnnotation}
use Rattle.wat_lex.specs.lemmas.Lengths.{length_if, length_digits}

length_escape : (c : ℕ) → length (unicode_escape c) ≤ 68
length_escape c = omega (arith, length-append (lower_hex c) (codes "}"), length_digits 16 c)

length_shown_char : (c : ℕ) → length (escaped_char c) ≤ 68
length_shown_char c =
    length_if (c == 9) _ _ 68 (omega arith)
    (length_if (c == 13) _ _ 68 (omega arith)
    (length_if (c == 10) _ _ 68 (omega arith)
    (length_if (c == 92) _ _ 68 (omega arith)
    (length_if (c == 39) _ _ 68 (omega arith)
    (length_if (nat_le 0x20 c && nat_le c 0x7E) _ _ 68 (omega arith) (length_escape c))))))

length_quoted : (c : ℕ) → length (quoted_char c) ≤ 70
length_quoted c = omega (arith, length-append (escaped_char c) (codes "'"), length_shown_char c)

-- A message of a text of at most 60 bytes and a quoted character has at most 200 bytes.
length_about : (text : List ℕ) (c : ℕ) → length text ≤ 60 → length (text ++ quoted_char c) ≤ 200
length_about text c l = omega (arith, length-append text (quoted_char c), length_quoted c, l)

pub length_message : (e : LexError) → length (message e) ≤ 200
length_message DanglingBlockComment = omega arith
length_message (Unexpected c) = length_about (codes "unexpected character ") c (omega arith)
length_message (InvalidStringElement c) = length_about (codes "invalid character in string ") c (omega arith)
length_message (InvalidStringEscape c) = length_about (codes "invalid string escape ") c (omega arith)
length_message (InvalidHexDigit c) = length_about (codes "invalid hex digit ") c (omega arith)
length_message (InvalidDigit c) = length_about (codes "invalid decimal digit ") c (omega arith)
length_message (Expected w f) =
    let first = length-append (codes "expected ") (quoted_char w) in
    let second = length-append (codes " but found ") (quoted_char f) in
    omega (arith, length-append (codes "expected " ++ quoted_char w) (codes " but found " ++ quoted_char f), first, second, length_quoted w, length_quoted f)
length_message UnexpectedEof = omega arith
length_message NumberTooBig = omega arith
length_message (InvalidUnicodeValue n) = omega (arith, length-append (codes "invalid unicode scalar value 0x") (lower_hex n), length_digits 16 n)
length_message LoneUnderscore = omega arith
length_message (ConfusingUnicode c) =
    let end = length-append (unicode_escape c) (codes "'") in
    omega (arith, length-append (codes "likely-confusing unicode character found '") (unicode_escape c ++ codes "'"), end, length_escape c)
length_message InvalidUtf8Id = omega arith
length_message EmptyId = omega arith
length_message EmptyAnnotation = omega arith
