-- WebAssembly 2.0, 6.2.2 (tokens) and 6.3 (values): what readers find at an offset. It is the bytes to which the token
-- there reads, or the reason why there are none.
use Rattle.std.specs.Prelude.{◌≡◌, ◌≢◌, ◌⊎◌, ℕ, true, ◌==◌, List, [], Option, Some, None, Ok, Err, Result, IfOk, IfSome, if◌then◌else◌}
use Rattle.std.specs.Option.{option_map}
use Rattle.std.specs.Cow.{cow_str_bytes}
use Rattle.std.specs.Str.{IsUtf8}
use Rattle.wat_lex.specs.errors.Messages.{message}
use Rattle.wat_lex.specs.errors.Rendering.{rendered}
use Rattle.wat_lex.specs.grammar.Classes.{backslash}
use Rattle.wat_lex.specs.grammar.Strings.{StringWord}
use Rattle.wat_lex.specs.tokens.Faults.{FaultAt}
use Rattle.wat_lex.specs.tokens.ReadableTokens.{word_of}
use Rattle.wat_lex.specs.tokens.Setting.{Setting, lenient}
use Rattle.wat_lex.specs.tokens.Tiling.{TokenAt}
use Rattle.wat_lex.specs.tokens.UniqueTilings.{ResultAt}
use Rattle.wat_lex.specs.values.IntegerFacts.{kind_hex}
use Rattle.wat_lex.specs.values.Names.{Name, NameFault, HasNone, HasNoEscape}
use Rattle.wat_lex.specs.values.NumberValues.{number_text, is_integer_rewritten, is_float_rewritten, IsFloatOf}
use Rattle.wat_lex.specs.values.WordValues.{empty_name}
use Rattle.wat_lex.specs.declared.lexer.faults.LexError.{LexError}
use Rattle.wat_lex.specs.declared.lexer.faults.LexFault.{LexFault}
use Rattle.wat_lex.specs.declared.lexer.kinds.FloatKind.{FloatKind}
use Rattle.wat_lex.specs.declared.lexer.kinds.IntegerKind.{IntegerKind}
use Rattle.wat_lex.specs.declared.lexer.kinds.Token.{Token}
use Rattle.wat_lex.specs.declared.lexer.kinds.TokenKind.{TokenKind}
use Rattle.wat_lex.specs.declared.lexer.kinds.TokenKind.TheVariants as kind
use Rattle.wat_lex.specs.declared.lexer.read.numbers.Float.{Float}
use Rattle.wat_lex.specs.declared.lexer.read.numbers.Float.TheVariants as value
use Rattle.wat_c.specs.declared.answers.Refusal.{Refusal}
use Rattle.wat_c.specs.declared.answers.Refusal.TheVariants.{Other, Memory, Absent, Fault}

abbrev pub IsString : TokenKind → Type 0
IsString k = k ≡ kind.String

abbrev pub IsNamed : TokenKind → Type 0
IsNamed k = (k ≡ kind.Id) ⊎ (k ≡ kind.Annotation)

abbrev pub IsInteger : TokenKind → Type 0
IsInteger k = (i : IntegerKind) × (k ≡ kind.Integer i)

abbrev pub IsFloat : TokenKind → Type 0
IsFloat k = (f : FloatKind) × (k ≡ kind.Float f)

-- `OtherAt Is s p`: at byte `p` there is a token of a kind that is not in `Is`, the end of the text, or a lexical
-- error.
pub record OtherAt (Is : TokenKind → Type 0) (s : Setting) (p : ℕ) : Type 0 where
  pub answer : Result (Option Token) LexFault
  pub is_at : ResultAt s p answer
  pub other : IfOk answer (λ found. IfSome found (λ t. Is t.kind → ⊥))

-- `ReadAt Is Reads s p found`: there is a token of the kinds `Is` at byte `p`, and `Reads` relates it to the result.
pub record ReadAt (Is : TokenKind → Type 0) (Reads : List ℕ → Token → Result (List ℕ) Refusal → Type 0) (s : Setting) (p : ℕ) (found : Result (List ℕ) Refusal) : Type 0 where
  pub token : Token
  pub is_at : TokenAt s p token
  pub kind : Is token.kind
  pub reads : Reads s.text token found

-- `Finds Is Reads s p found`: what a reader of tokens of the kinds `Is` finds at byte `p`.
abbrev pub Finds : (TokenKind → Type 0) → (List ℕ → Token → Result (List ℕ) Refusal → Type 0) → Setting → ℕ → Result (List ℕ) Refusal → Type 0
Finds Is Reads s p (Err Other) = OtherAt Is s p
Finds Is Reads s p found = ReadAt Is Reads s p found

-- `ReadsString text t result`: the value of a string literal. An allocation failure is possible only if it contains an
-- escape.
abbrev pub ReadsString : List ℕ → Token → Result (List ℕ) Refusal → Type 0
ReadsString text t (Ok bytes) = StringWord lenient (word_of text t) bytes
ReadsString text t (Err (Memory refused)) = HasNone backslash (word_of text t) → ⊥
ReadsString text t (Err refusal) = ⊥

-- `ReadsName text t result`: the name of an identifier or annotation, which is UTF-8 and not empty, or the error in it.
-- An allocation failure is possible only if the name contains an escape.
abbrev pub ReadsName : List ℕ → Token → Result (List ℕ) Refusal → Type 0
ReadsName text t (Ok bytes) = Name (word_of text t) bytes × IsUtf8 bytes × (bytes ≢ [])
ReadsName text t (Err (Fault e)) = NameFault (empty_name t.kind) (word_of text t) e
ReadsName text t (Err (Memory refused)) = HasNoEscape (word_of text t) → ⊥
ReadsName text t (Err refusal) = ⊥

-- `ReadsInteger text t result`: the digits of an integer, with a `-` but without `+`, underscores and `0x`. An
-- allocation failure is possible only if there are underscores or `0x`.
abbrev pub ReadsInteger : List ℕ → Token → Result (List ℕ) Refusal → Type 0
ReadsInteger text t (Ok bytes) = (k : IntegerKind) × (t.kind ≡ kind.Integer k) × (bytes ≡ number_text (kind_hex k) (word_of text t))
ReadsInteger text t (Err (Memory refused)) = (k : IntegerKind) × (t.kind ≡ kind.Integer k) × (is_integer_rewritten k ≡ true)
ReadsInteger text t (Err refusal) = ⊥

abbrev pub integral_part : Float → Option (List ℕ)
integral_part (value.Val h i f e) = Some (cow_str_bytes i)
integral_part float = None

abbrev pub fractional_part : Float → Option (List ℕ)
fractional_part (value.Val h i f e) = option_map cow_str_bytes f
fractional_part float = None

abbrev pub exponent_part : Float → Option (List ℕ)
exponent_part (value.Val h i f e) = option_map cow_str_bytes e
exponent_part float = None

abbrev pub payload_part : Float → Option (List ℕ)
payload_part (value.Nan payload n) = option_map cow_str_bytes payload
payload_part float = None

-- `IsFloatToken text t float`: the token is a floating-point number with these parts.
abbrev pub IsFloatToken : List ℕ → Token → Float → Type 0
IsFloatToken text t float = (k : FloatKind) × (t.kind ≡ kind.Float k) × IsFloatOf k (word_of text t) float

-- `part_of part float` is one part of a floating-point number: 0 is the digits before the decimal point, 1 is the
-- digits after it, 2 is the digits of the exponent, and 3 is the digits of a NaN's payload.
abbrev pub part_of : ℕ → Float → Option (List ℕ)
part_of part float =
    if part == 0 then integral_part float
    else if part == 1 then fractional_part float
    else if part == 2 then exponent_part float
    else if part == 3 then payload_part float
    else None

-- `ReadsFloat part text t result`: one part of a floating-point number, or `Absent` if the number does not have it. An
-- allocation failure is possible only if the number has underscores or is a hexadecimal `Normal` one.
abbrev pub ReadsFloat : ℕ → List ℕ → Token → Result (List ℕ) Refusal → Type 0
ReadsFloat part text t (Ok bytes) = (float : Float) × IsFloatToken text t float × (part_of part float ≡ Some bytes)
ReadsFloat part text t (Err Absent) = (float : Float) × IsFloatToken text t float × (part_of part float ≡ None)
ReadsFloat part text t (Err (Memory refused)) = (k : FloatKind) × (t.kind ≡ kind.Float k) × (is_float_rewritten k ≡ true)
ReadsFloat part text t (Err refusal) = ⊥

-- `FloatAt s p float`: there is a floating-point number with these parts at byte `p`.
pub record FloatAt (s : Setting) (p : ℕ) (float : Float) : Type 0 where
  pub token : Token
  pub is_at : TokenAt s p token
  pub cut : IsFloatToken s.text token float

-- `shown_fault text f` is the formatted text of a lexical error.
abbrev pub shown_fault : List ℕ → LexFault → List ℕ
shown_fault text f = rendered text (message f.error) f.offset

-- `NoFault s p`: there is a token or the end of the text at byte `p`.
pub record NoFault (s : Setting) (p : ℕ) : Type 0 where
  pub found : Option Token
  pub is_at : ResultAt s p (Ok found)

-- `FindsFault s p result`: the formatted text of the lexical error at byte `p`, or `Other` if there is none.
abbrev pub FindsFault : Setting → ℕ → Result (List ℕ) Refusal → Type 0
FindsFault s p (Ok bytes) = (f : LexFault) × FaultAt s p f × (bytes ≡ shown_fault s.text f)
FindsFault s p (Err Other) = NoFault s p
FindsFault s p (Err refusal) = ⊥

-- `ReadsNameFault text t result`: the formatted text of the error in the name of an identifier or annotation, or
-- `Absent` if the name is valid. An allocation failure is possible only if the name contains an escape.
abbrev pub ReadsNameFault : List ℕ → Token → Result (List ℕ) Refusal → Type 0
ReadsNameFault text t (Ok bytes) = (e : LexError) × NameFault (empty_name t.kind) (word_of text t) e × (bytes ≡ shown_fault text (record { offset = t.offset; error = e }))
ReadsNameFault text t (Err Absent) = (name : List ℕ) × Name (word_of text t) name × IsUtf8 name × (name ≢ [])
ReadsNameFault text t (Err (Memory refused)) = HasNoEscape (word_of text t) → ⊥
ReadsNameFault text t (Err refusal) = ⊥
