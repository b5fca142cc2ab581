-- Custom annotations proposal: the classification of an annotation by its name, for a peek.
use Rattle.std.specs.Prelude.{◌<◌, ◌-◌, ℕ, Bool, ◌&&◌, nat_le, List, length, take, drop, Result, Ok, Err, IsTrue, IsFalse, if◌then◌else◌, ◌==◌}
use Rattle.std.specs.Str.{bytes_eq}
use Rattle.std.specs.declared.alloc.AllocError.{AllocError}
use Rattle.wat_lex.specs.tokens.ReadableTokens.{word_of}
use Rattle.wat_lex.specs.values.Names.{HasNoEscape}
use Rattle.wat_lex.specs.declared.lexer.faults.LexError.{LexError}
use Rattle.wat_lex.specs.declared.lexer.kinds.Token.{Token}
use Rattle.wat_lex.specs.declared.lexer.kinds.TokenKind.TheVariants.{Annotation}
use Rattle.wat_lexer_parser.specs.names.RegisteredNames.{Names, is_registered}
use Rattle.wat_lexer_parser.specs.shown.Shown.{HasName, IsMisnamed}
use Rattle.wat_c_records.specs.declared.counting.Row.{Row}
use Rattle.wat_c_records.specs.declared.looks.NameMeaning.{NameMeaning}
use Rattle.wat_c_records.specs.declared.looks.NameMeaning.TheVariants as named
use Rattle.wat_c_records.specs.declared.answers.NotVisible.{NotVisible}
use Rattle.wat_c_records.specs.declared.answers.NotVisible.TheVariants as unseen

-- `NameMeans text t names meaning`: the classification of the annotation `t` under the registered names.
pub data NameMeans (text : List ℕ) (t : Token) (names : Names) : NameMeaning → Type 0 where
  registered : {x : List ℕ} → HasName text t x → IsTrue (is_registered names x) → NameMeans text t names named.Registered
  other : {x : List ℕ} → HasName text t x → IsFalse (is_registered names x) → NameMeans text t names named.Other
  misnamed : {e : LexError} → IsMisnamed text t e → NameMeans text t names named.Misnamed
  memory : {refused : AllocError} → (HasNoEscape (word_of text t) → ⊥) → NameMeans text t names (named.Memory refused)

-- `is_between bytes start end name`: the range from `start` to `end` is within the bytes, and is the name.
abbrev pub is_between : List ℕ → ℕ → ℕ → List ℕ → Bool
is_between bytes start end name = (nat_le start end && nat_le end (length bytes)) && bytes_eq (take (end - start) (drop start bytes)) name

-- `annotation_of row` is the token of a row, as an annotation.
abbrev pub annotation_of : Row → Token
annotation_of row = record { offset = row.offset; len = row.len; kind = Annotation }

-- `reason_at_end why` is the reason why no row is visible at the end of the rows, which end for the reason `why`.
abbrev pub reason_at_end : ℕ → NotVisible
reason_at_end why = if why == 0 then unseen.TextEnd else unseen.TextFault

-- `reason_in_group why number` is the reason why no row is visible if the rows end, for the reason `why`, inside the group
-- that row `number` opens.
abbrev pub reason_in_group : ℕ → ℕ → NotVisible
reason_in_group why number = if why == 0 then unseen.Unclosed number else unseen.TextFault

-- `IsWithin rows result`: an index in the result is less than the number of rows.
abbrev pub IsWithin : ℕ → Result ℕ NotVisible → Type 0
IsWithin rows (Ok number) = number < rows
IsWithin rows (Err unseen.TextEnd) = Unit {0}
IsWithin rows (Err (unseen.Memory refused)) = Unit {0}
IsWithin rows (Err unseen.TextFault) = Unit {0}
IsWithin rows (Err (unseen.Unclosed number)) = number < rows
IsWithin rows (Err (unseen.Misnamed number)) = number < rows
