-- WebAssembly 2.0, 6.6.13 (text format, modules), 5.5.16 (binary format, modules) and 7.4.1 (name section), and 3.0,
-- appendix, custom annotations: the binary of a text, and the error of a text that is not a module, as C gets them. The
-- errors are not part of the standard.
use Rattle.std.specs.Prelude.{◌≡◌, ◌≢◌, ℕ, Bool, true, false, List, length, Option, Result, Ok, Err, IfOk}
use Rattle.std.specs.Str.{IsCharBoundary}
use Rattle.wat_lex.specs.errors.Errors.{Cause, Lexical, Custom, Report, cause_text}
use Rattle.wat_lex.specs.declared.lexer.kinds.Token.{Token}
use Rattle.wat_lexer_parser.specs.declared.parser.fault.Fault.{Fault}
use Rattle.wat_lexer_parser.specs.laws.Blanking.{TextShows}
use Rattle.wat_lexer_parser.specs.names.RegisteredNames.{no_names}
use Rattle.wat_module_ast.specs.Fields.{Field}
use Rattle.wat_module_custom.specs.Customs.{CustomSection}
use Rattle.wat_module_encoder.specs.Binary.{module_bytes}
use Rattle.wat_module_encoder.specs.CustomSections.{complete_bytes}
use Rattle.wat_module_lexer.specs.TokenTerminals.{plain}
use Rattle.wat_module_tokens.specs.Terminals.{Label}
use Rattle.wat_modules.specs.Compiling as modules
use Rattle.wat_c_records.specs.Rows.{TokenFoundAt}
use Rattle.wat_c_records.specs.declared.rows.TokenRow.{TokenRow}
use Rattle.wat_c.specs.Answers.{put, status_of}
use Rattle.wat_c.specs.declared.answers.Checked.{Checked}
use Rattle.wat_c.specs.declared.answers.Refusal.{Refusal}
use Rattle.wat_c.specs.declared.answers.Refusal.TheVariants as refusal

-- 6.6.13, 5.5.16, 7.4.1: `IsBinary has_names text bytes`: the text denotes a module, whose binary is `bytes` and has fewer
-- than 2^32 bytes. If `has_names` is true, the binary has the name section and the custom sections of the text, by its
-- annotations.
abbrev pub IsBinary : Bool → List ℕ → List ℕ → Type 0
IsBinary false text bytes = (fs : List Field) × modules.DenotesModule text fs × modules.Fits fs × (bytes ≡ module_bytes fs)
IsBinary true text bytes = (l : Label) × (fs : List Field) × (cs : List CustomSection) × modules.DenotesComplete text l fs cs × modules.FitsComplete l fs cs × (bytes ≡ complete_bytes l fs cs)

-- The result of compiling a text: its binary, or the error of the text.
abbrev pub Compilation : Type 0
Compilation = Result (List ℕ) Report

-- `IsCompiled has_names text tokens last result`: `result` is that of compiling a text, by its visible tokens and the error
-- after them, if there is one. If `has_names` is true, it is that of `compile_with_customs`, by what the annotations of the
-- text define or the error in them; otherwise it is that of `compile`.
abbrev pub IsCompiled : Bool → List ℕ → List Token → Option Fault → Compilation → Type 0
IsCompiled false text tokens last result = result ≡ modules.compiled text tokens last
IsCompiled true text tokens last result = (customs : modules.Sections) × modules.AnnotationsDefine text customs × (result ≡ modules.compiled_complete customs text tokens last)

-- `CompilesTo has_names text result`: `result` is that of compiling the text.
pub record CompilesTo (has_names : Bool) (text : List ℕ) (result : Compilation) : Type 0 where
  pub tokens : List Token
  pub last : Option Fault
  pub shown : TextShows (plain text) no_names tokens last
  pub is : IsCompiled has_names text tokens last result

-- The result of `wat_compile` for a result of compiling: the bytes, or `Other` for an error.
abbrev pub binary_of : Compilation → Result (List ℕ) Refusal
binary_of (Ok bytes) = Ok bytes
binary_of (Err report) = Err refusal.Other

-- `IsUnlessRefused found wanted`: the result is as wanted, or an allocation failure.
abbrev pub IsUnlessRefused : Result (List ℕ) Refusal → Result (List ℕ) Refusal → Type 0
IsUnlessRefused (Err (refusal.Memory refused)) wanted = Unit {0}
IsUnlessRefused found wanted = found ≡ wanted

-- `Compiles has_names text found`: what `wat_compile` finds for a text. Bytes are the binary of the text, a text with a
-- binary yields it, and any other text is rejected because of the compiler's error. An allocation failure is possible
-- for every text.
pub record Compiles (has_names : Bool) (text : List ℕ) (found : Result (List ℕ) Refusal) : Type 0 where
  pub bytes : IfOk found (IsBinary has_names text)
  pub all : (binary : List ℕ) → IsBinary has_names text binary → IsUnlessRefused found (Ok binary)
  pub result : Compilation
  pub compiled : CompilesTo has_names text result
  pub is : IsUnlessRefused found (binary_of result)

-- `LengthAt text p len`: the token that begins at byte `p` of the text has `len` bytes. `len` is 0 if no token begins
-- there: at the end of the text, at a lexical error, or inside a character.
pub data LengthAt (text : List ℕ) (p len : ℕ) : Type 0 where
  lexed : (row : TokenRow) → IsCharBoundary text p → TokenFoundAt (plain text) p row → len ≡ row.len → LengthAt text p len
  inside : (IsCharBoundary text p → ⊥) → len ≡ 0 → LengthAt text p len

-- `MarkedLength text p cause len`: an error with this cause at byte `p` concerns `len` bytes. They are the token that
-- begins there, unless the cause is a lexical error.
abbrev pub MarkedLength : List ℕ → ℕ → Cause → ℕ → Type 0
MarkedLength text p (Lexical e) len = len ≡ 0
MarkedLength text p (Custom message) len = LengthAt text p len

-- An error of a text for C: its offset, the number of bytes that it concerns, and its message.
pub record TextError : Type 0 where
  pub offset : ℕ
  pub len : ℕ
  pub message : List ℕ

-- `IsErrorOf text result found`: what `wat_check` finds, by the result of compiling the text: the compiler's error,
-- `Absent` if there is none, or an allocation failure.
abbrev pub IsErrorOf : List ℕ → Compilation → Result TextError Refusal → Type 0
IsErrorOf text (Ok bytes) (Err refusal.Absent) = Unit {0}
IsErrorOf text (Err r) (Ok e) = (e.offset ≡ r.offset) × (e.message ≡ cause_text r.cause) × MarkedLength text r.offset r.cause e.len
IsErrorOf text result (Err (refusal.Memory refused)) = Unit {0}
IsErrorOf text result found = ⊥

-- `checked_of found` is the error without its message, or the status that tells why there is none.
abbrev pub checked_of : Result TextError Refusal → Checked
checked_of (Ok e) = record { offset = e.offset; len = e.len; needed = length e.message; status = 0 }
checked_of (Err r) = record { offset = 0; len = 0; needed = 0; status = status_of r }

abbrev pub left_of_check : List ℕ → Result TextError Refusal → List ℕ
left_of_check old (Ok e) = put e.message old
left_of_check old (Err r) = old

-- `Checks has_names text old new checked`: `wat_check` finds the error of the text, and reports it as `checked`. It
-- writes the message to the buffer if it fits, whose contents change from `old` to `new`.
pub record Checks (has_names : Bool) (text old new : List ℕ) (checked : Checked) : Type 0 where
  pub result : Compilation
  pub compiled : CompilesTo has_names text result
  pub found : Result TextError Refusal
  pub is : IsErrorOf text result found
  pub known : checked ≡ checked_of found
  pub left : new ≡ left_of_check old found

-- `OneCheck has_names text old`: any two results of `wat_check` that are not allocation failures are equal, and so are the
-- contents of the buffer afterwards.
unfoldable pub OneCheck : Bool → List ℕ → List ℕ → Type 0
OneCheck has_names text old = (new other : List ℕ) (checked known : Checked) → Checks has_names text old new checked → Checks has_names text old other known
    → checked.status ≢ 2 → known.status ≢ 2 → (checked ≡ known) × (new ≡ other)
