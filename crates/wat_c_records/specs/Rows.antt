-- Integers for kinds, lexical errors and tokens, in the form in which C gets them. They are not part of the standard.
use Rattle.std.specs.Prelude.{◌≡◌, ◌<◌, ℕ, Bool, false, List, length, map, Option, Some, None, Result, Ok, Err, if◌then◌else◌}
use Rattle.wat_lex.specs.tokens.Faults.{FaultAt}
use Rattle.wat_lex.specs.tokens.Setting.{Setting}
use Rattle.wat_lex.specs.tokens.Tiling.{Tiling}
use Rattle.wat_lex.specs.tokens.UniqueTilings.{ResultAt}
use Rattle.wat_lex.specs.values.KindNumbers.{kind_number}
use Rattle.wat_lex.specs.values.IntegerFacts.{kind_sign, kind_has_underscores, kind_hex}
use Rattle.wat_lex.specs.declared.lexer.faults.LexError.{LexError}
use Rattle.wat_lex.specs.declared.lexer.faults.LexError.TheVariants as fault
use Rattle.wat_lex.specs.declared.lexer.faults.LexFault.{LexFault}
use Rattle.wat_lex.specs.declared.lexer.kinds.FloatKind.{FloatKind}
use Rattle.wat_lex.specs.declared.lexer.kinds.FloatKind.TheVariants.{Inf, Nan, NanVal, Normal}
use Rattle.wat_lex.specs.declared.lexer.kinds.SignToken.{SignToken}
use Rattle.wat_lex.specs.declared.lexer.kinds.SignToken.TheVariants.{Plus, Minus}
use Rattle.wat_lex.specs.declared.lexer.kinds.Token.{Token}
use Rattle.wat_lex.specs.declared.lexer.kinds.TokenKind.{TokenKind}
use Rattle.wat_lex.specs.declared.lexer.kinds.TokenKind.TheVariants.{LineComment, BlockComment, Whitespace, LParen, RParen, String, Id, Keyword}
use Rattle.wat_lex.specs.declared.lexer.kinds.TokenKind.TheVariants.{Annotation, Reserved, Integer, Float}
use Rattle.wat_c_records.specs.declared.rows.KindRow.{KindRow}
use Rattle.wat_c_records.specs.declared.rows.TokenRow.{TokenRow}
use Rattle.wat_c_records.specs.declared.rows.Found.{Found}
use Rattle.wat_c_records.specs.declared.rows.Filled.{Filled}

-- `setting text allow strict` is the text under these two flags, which C passes as two arguments.
abbrev pub setting : List ℕ → Bool → Bool → Setting
setting text allow strict = record { text = text; flags = record { allow = allow; strict = strict } }

abbrev pub sign_code : Option SignToken → ℕ
sign_code None = 0
sign_code (Some Plus) = 1
sign_code (Some Minus) = 2

abbrev pub minus_code : Bool → ℕ
minus_code negative = if negative then 2 else 0

-- `plain code` is the kind with this code and without the facts of numbers.
abbrev pub plain : ℕ → KindRow
plain code = record { code = code; sign = 0; has_underscores = false; hex = false }

abbrev pub float_row : FloatKind → KindRow
float_row (Inf n) = record { code = kind_number (Float (Inf n)); sign = minus_code n; has_underscores = false; hex = false }
float_row (Nan n) = record { code = kind_number (Float (Nan n)); sign = minus_code n; has_underscores = false; hex = false }
float_row (NanVal n u) = record { code = kind_number (Float (NanVal n u)); sign = minus_code n; has_underscores = u; hex = false }
float_row (Normal u h) = record { code = kind_number (Float (Normal u h)); sign = 0; has_underscores = u; hex = h }

-- `kind_row kind` is the code of the kind, with the facts of a number token.
abbrev pub kind_row : TokenKind → KindRow
kind_row LineComment = plain (kind_number LineComment)
kind_row BlockComment = plain (kind_number BlockComment)
kind_row Whitespace = plain (kind_number Whitespace)
kind_row LParen = plain (kind_number LParen)
kind_row RParen = plain (kind_number RParen)
kind_row String = plain (kind_number String)
kind_row Id = plain (kind_number Id)
kind_row Keyword = plain (kind_number Keyword)
kind_row Annotation = plain (kind_number Annotation)
kind_row Reserved = plain (kind_number Reserved)
kind_row (Integer k) = record {
  code = kind_number (Integer k);
  sign = sign_code (kind_sign k);
  has_underscores = kind_has_underscores k;
  hex = kind_hex k;
}
kind_row (Float k) = float_row k

abbrev pub token_row : Token → TokenRow
token_row t = record { offset = t.offset; len = t.len; kind = kind_row t.kind }

-- `offset_row p` is the row of an offset without a token.
abbrev pub offset_row : ℕ → TokenRow
offset_row p = record { offset = p; len = 0; kind = plain 0 }

-- `fault_code error` is the code of the error.
abbrev pub fault_code : LexError → ℕ
fault_code fault.DanglingBlockComment = 101
fault_code (fault.Unexpected c) = 102
fault_code (fault.InvalidStringElement c) = 103
fault_code (fault.InvalidStringEscape c) = 104
fault_code (fault.InvalidHexDigit c) = 105
fault_code (fault.InvalidDigit c) = 106
fault_code (fault.Expected w f) = 107
fault_code fault.UnexpectedEof = 108
fault_code fault.NumberTooBig = 109
fault_code (fault.InvalidUnicodeValue n) = 110
fault_code fault.LoneUnderscore = 111
fault_code (fault.ConfusingUnicode c) = 112
fault_code fault.InvalidUtf8Id = 113
fault_code fault.EmptyId = 114
fault_code fault.EmptyAnnotation = 115

-- `fault_found error` is the character that caused the error, or the integer that is not a Unicode scalar value,
-- otherwise 0.
abbrev pub fault_found : LexError → ℕ
fault_found (fault.Unexpected c) = c
fault_found (fault.InvalidStringElement c) = c
fault_found (fault.InvalidStringEscape c) = c
fault_found (fault.InvalidHexDigit c) = c
fault_found (fault.InvalidDigit c) = c
fault_found (fault.Expected w f) = f
fault_found (fault.InvalidUnicodeValue n) = n
fault_found (fault.ConfusingUnicode c) = c
fault_found e = 0

-- `fault_wanted error` is the required character, or 0 if the error names none.
abbrev pub fault_wanted : LexError → ℕ
fault_wanted (fault.Expected w f) = w
fault_wanted e = 0

-- `found_row p result` is the result of a scan at byte `p` as integers.
abbrev pub found_row : ℕ → Result (Option Token) LexFault → Found
found_row p (Ok None) = record { token = offset_row p; fault = 0; found = 0; wanted = 0 }
found_row p (Ok (Some t)) = record { token = token_row t; fault = 0; found = 0; wanted = 0 }
found_row p (Err f) = record { token = offset_row f.offset; fault = fault_code f.error; found = fault_found f.error; wanted = fault_wanted f.error }

-- `FoundAt s p row`: the row tells the token at byte `p`, the end of the text, or the lexical error there.
pub record FoundAt (s : Setting) (p : ℕ) (row : Found) : Type 0 where
  pub answer : Result (Option Token) LexFault
  pub is_at : ResultAt s p answer
  pub known : row ≡ found_row p answer

-- `TokenFoundAt s p row`: the row is the token of what `FoundAt` tells.
pub record TokenFoundAt (s : Setting) (p : ℕ) (row : TokenRow) : Type 0 where
  pub all : Found
  pub found : FoundAt s p all
  pub token : row ≡ all.token

-- `Stops s at room count why`: filling a buffer of `room` rows stops at offset `at` after `count` rows. The reason
-- `why` is 0 for the end of the text, 1 for a full buffer, otherwise the code of the lexical error at `at`.
pub data Stops (s : Setting) (at room count : ℕ) : ℕ → Type 0 where
  ended : count < room → at ≡ length s.text → Stops s at room count 0
  full : count ≡ room → Stops s at room count 1
  faulty : (f : LexFault) (code : ℕ) → count < room → FaultAt s at f → code ≡ fault_code f.error → Stops s at room count code

-- `Fills s from room rows filled`: the rows are those of the tokens that cover the bytes from `from` to `filled.at`.
-- Their number is `filled.count`, and `filled.why` is the reason to stop.
pub record Fills (s : Setting) (from room : ℕ) (rows : List TokenRow) (filled : Filled) : Type 0 where
  pub tokens : List Token
  pub tiling : Tiling s from filled.at tokens
  pub rows_are : rows ≡ map token_row tokens
  pub count : filled.count ≡ length tokens
  pub stops : Stops s filled.at room filled.count filled.why

-- `OneFill s from room`: the rows of the tokens from `from` are unique, and so is the result of filling a buffer of
-- `room` rows with them.
unfoldable pub OneFill : Setting → ℕ → ℕ → Type 0
OneFill s from room = (rows others : List TokenRow) (filled other : Filled) → Fills s from room rows filled → Fills s from room others other
    → (rows ≡ others) × (filled ≡ other)
