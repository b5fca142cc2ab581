-- Messages of lexical errors, given the integers that tell an error. They are not part of the standard.
use Rattle.std.specs.Prelude.{◌≡◌, ℕ, ◌==◌, List, Option, Some, None, Result, Ok, Err, if◌then◌else◌}
use Rattle.std.specs.Char.{IsScalar}
use lib.Utf8.{scalar}
use Rattle.std.specs.Option.{option_map}
use Rattle.wat_lex.specs.errors.Messages.{message}
use Rattle.wat_lex.specs.declared.lexer.faults.LexError.{LexError}
use Rattle.wat_lex.specs.declared.lexer.faults.LexError.TheVariants as fault
use Rattle.wat_c_records.specs.Rows.{fault_code, fault_found, fault_wanted}
use Rattle.wat_c.specs.declared.answers.Refusal.{Refusal}
use Rattle.wat_c.specs.declared.answers.Refusal.TheVariants.{Other}

abbrev pub char_of : ℕ → Option ℕ
char_of n = if scalar n then Some n else None

abbrev pub expected : Option ℕ → Option ℕ → Option LexError
expected (Some wanted) (Some found) = Some (fault.Expected wanted found)
expected wanted found = None

-- `error_of_codes code found wanted` is the error with this code, this character found, and this character required. It is
-- `None` if the code is not that of an error, or a character of the error is not a Unicode scalar value.
abbrev pub error_of_codes : ℕ → ℕ → ℕ → Option LexError
error_of_codes code found wanted =
    if code == 101 then Some fault.DanglingBlockComment
    else if code == 102 then option_map fault.Unexpected (char_of found)
    else if code == 103 then option_map fault.InvalidStringElement (char_of found)
    else if code == 104 then option_map fault.InvalidStringEscape (char_of found)
    else if code == 105 then option_map fault.InvalidHexDigit (char_of found)
    else if code == 106 then option_map fault.InvalidDigit (char_of found)
    else if code == 107 then expected (char_of wanted) (char_of found)
    else if code == 108 then Some fault.UnexpectedEof
    else if code == 109 then Some fault.NumberTooBig
    else if code == 110 then Some (fault.InvalidUnicodeValue found)
    else if code == 111 then Some fault.LoneUnderscore
    else if code == 112 then option_map fault.ConfusingUnicode (char_of found)
    else if code == 113 then Some fault.InvalidUtf8Id
    else if code == 114 then Some fault.EmptyId
    else if code == 115 then Some fault.EmptyAnnotation
    else None

-- `message_result error` is the message of an error.
abbrev pub message_result : Option LexError → Result (List ℕ) Refusal
message_result None = Err Other
message_result (Some e) = Ok (message e)

-- `HasCharacters error`: the characters of the error are Unicode scalar values.
abbrev pub HasCharacters : LexError → Type 0
HasCharacters (fault.Unexpected c) = IsScalar c
HasCharacters (fault.InvalidStringElement c) = IsScalar c
HasCharacters (fault.InvalidStringEscape c) = IsScalar c
HasCharacters (fault.InvalidHexDigit c) = IsScalar c
HasCharacters (fault.InvalidDigit c) = IsScalar c
HasCharacters (fault.Expected wanted found) = IsScalar wanted × IsScalar found
HasCharacters (fault.ConfusingUnicode c) = IsScalar c
HasCharacters e = Unit {0}

-- Theorem: each error is determined by its code, the character found and the character required.
unfoldable pub FaultsAreKnown : Type 0
FaultsAreKnown = (e : LexError) → HasCharacters e → error_of_codes (fault_code e) (fault_found e) (fault_wanted e) ≡ Some e
