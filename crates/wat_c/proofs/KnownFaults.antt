-- Each error is determined by its code and its characters.
use Rattle.std.proofs.Common.{◌≡◌, ℕ, refl, ap}
use Rattle.std.specs.Prelude.{Some, None, if◌then◌else◌}
use Rattle.std.specs.Option.{option_map}
use Rattle.wat_lex.specs.declared.lexer.faults.LexError.{LexError}
use Rattle.wat_lex.specs.declared.lexer.faults.LexError.TheVariants as fault
use Rattle.wat_c_records.specs.Rows.{fault_code, fault_found, fault_wanted}
use Rattle.wat_c.specs.FaultMessages.{HasCharacters, error_of_codes, FaultsAreKnown, char_of, expected}

abbrev Known : LexError → Type 0
Known e = HasCharacters e → error_of_codes (fault_code e) (fault_found e) (fault_wanted e) ≡ Some e

char_back : (c : ℕ) → HasCharacters (fault.Unexpected c) → char_of c ≡ Some c
char_back c h = ap (λ b. if b then Some c else None) h

known : (e : LexError) → Known e
known fault.DanglingBlockComment h = refl
known (fault.Unexpected c) h = ap (option_map fault.Unexpected) (char_back c h)
known (fault.InvalidStringElement c) h = ap (option_map fault.InvalidStringElement) (char_back c h)
known (fault.InvalidStringEscape c) h = ap (option_map fault.InvalidStringEscape) (char_back c h)
known (fault.InvalidHexDigit c) h = ap (option_map fault.InvalidHexDigit) (char_back c h)
known (fault.InvalidDigit c) h = ap (option_map fault.InvalidDigit) (char_back c h)
known (fault.Expected w f) h = λ i. expected (char_back w h.0 i) (char_back f h.1 i)
known fault.UnexpectedEof h = refl
known fault.NumberTooBig h = refl
known (fault.InvalidUnicodeValue n) h = refl
known fault.LoneUnderscore h = refl
known (fault.ConfusingUnicode c) h = ap (option_map fault.ConfusingUnicode) (char_back c h)
known fault.InvalidUtf8Id h = refl
known fault.EmptyId h = refl
known fault.EmptyAnnotation h = refl

pub faults_are_known : FaultsAreKnown
unfolding FaultsAreKnown
faults_are_known = known
