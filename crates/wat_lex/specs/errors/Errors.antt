-- An error as callers see it: a report, or an allocation failure (`None`). The standard has no such reports.
use Rattle.std.specs.Prelude.{◌≡◌, ℕ, List, Option, Some, None, IsSome, codes, ◌++◌}
use Rattle.std.specs.Fmt.{decimal}
use Rattle.wat_lex.specs.errors.Messages.{message}
use Rattle.wat_lex.specs.errors.Rendering.{Excerpt, excerpt, rendered_location, rendered}
use Rattle.wat_lex.specs.declared.lexer.faults.LexError.{LexError}
use Rattle.wat_lex.specs.declared.lexer.faults.LexFault.{LexFault}

-- The cause of an error: a lexical error, or a message in bytes.
pub data Cause : Type 0 where
  Lexical : LexError → Cause
  Custom : List ℕ → Cause

-- The report of an error: its byte offset, its cause, and an excerpt of the text, if the text is known.
pub record Report : Type 0 where
  pub offset : ℕ
  pub cause : Cause
  pub excerpt : Option Excerpt

-- The report of this cause at a byte offset of a text.
abbrev pub report_in : List ℕ → ℕ → Cause → Report
report_in text offset cause = record { offset = offset; cause = cause; excerpt = Some (excerpt text offset) }

-- The report of a lexical error of a text.
abbrev pub lexical : List ℕ → LexFault → Report
lexical text f = report_in text f.offset (Lexical f.error)

-- The bytes that a lexical error of a text prints.
abbrev pub rendered_fault : List ℕ × LexFault → List ℕ
rendered_fault (text, f) = rendered text (message f.error) f.offset

-- The error has an excerpt, or is an allocation failure.
abbrev pub HasText : Option Report → Type 0
HasText None = Unit {0}
HasText (Some r) = IsSome r.excerpt

-- The error with an excerpt of this text, if it has none. An allocation failure is not changed.
abbrev pub with_text : List ℕ → Option Report → Option Report
with_text text None = None
with_text text (Some r) = by r.excerpt
  where
    by : Option Excerpt → Option Report
    by None = Some (report_in text r.offset r.cause)
    by (Some e) = Some r

-- `IsUnlessMemory e r`: the error `e` is the report `r`, or an allocation failure.
abbrev pub IsUnlessMemory : Option Report → Report → Type 0
IsUnlessMemory None r = Unit {0}
IsUnlessMemory (Some e) r = e ≡ r

abbrev pub cause_text : Cause → List ℕ
cause_text (Lexical e) = message e
cause_text (Custom m) = m

-- The message of an error, without its location.
abbrev pub message_of : Option Report → List ℕ
message_of None = codes "out of memory"
message_of (Some r) = cause_text r.cause

-- The bytes that an error prints: its message, its location, and the source line. Without an excerpt it prints the byte
-- offset instead of location and line.
abbrev pub printed : Option Report → List ℕ
printed None = codes "out of memory"
printed (Some r) = cause_text r.cause ++ place r.excerpt
  where
    place : Option Excerpt → List ℕ
    place None = codes " at byte offset " ++ decimal r.offset
    place (Some e) = rendered_location e

-- The lexical error that is the cause of the error, if there is one.
abbrev pub lex_error_of : Option Report → Option LexError
lex_error_of None = None
lex_error_of (Some r) = by r.cause
  where
    by : Cause → Option LexError
    by (Lexical e) = Some e
    by (Custom m) = None

-- The byte offset of the error, or 0 for an allocation failure.
abbrev pub offset_of : Option Report → ℕ
offset_of None = 0
offset_of (Some r) = r.offset

-- The excerpt of an error, if it has one.
abbrev pub excerpt_of_error : Option Report → Option Excerpt
excerpt_of_error None = None
excerpt_of_error (Some r) = r.excerpt
