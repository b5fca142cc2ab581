-- WebAssembly 2.0, 6.2.3 (whitespace) and 6.2.4 (comments), and the custom annotations proposal. The tokens of a text
-- that are visible to a parser under registered names, found in the rows of the text. Rows, and the form in which names
-- are passed, are not part of the standard.
use Rattle.std.specs.Prelude.{◌≡◌, ◌≤◌, ℕ, ◌+◌, ◌-◌, List, [], ◌∷◌, take, drop, length, nat_le, ◌&&◌, if◌then◌else◌, slice_get, Some, None, Result}
use Rattle.std.specs.Prelude.{Ok, Err}
use Rattle.std.specs.declared.alloc.AllocError.{AllocError}
use Rattle.wat_lex.specs.tokens.ReadableTokens.{word_of}
use Rattle.wat_lex.specs.values.Names.{HasNoEscape}
use Rattle.wat_lex.specs.declared.lexer.faults.LexError.{LexError}
use Rattle.wat_lex.specs.declared.lexer.faults.LexFault.{LexFault}
use Rattle.wat_lex.specs.declared.lexer.kinds.Token.{Token}
use Rattle.wat_lex.specs.declared.lexer.kinds.TokenKind.TheVariants.{Annotation}
use Rattle.wat_lexer_parser.specs.declared.parser.fault.FaultKind.TheVariants.{Lex, Unclosed}
use Rattle.wat_lexer_parser.specs.names.RegisteredNames.{Names, more, no_names}
use Rattle.wat_lexer_parser.specs.places.Source.{Source}
use Rattle.wat_lexer_parser.specs.laws.Counting.{counting}
use Rattle.wat_lexer_parser.specs.shown.Shown.{IsMarked, IsMisnamed}
use Rattle.wat_lexer_parser.specs.shown.Showing.{Look, shown}
use Rattle.wat_c_records.specs.Places.{raw_position}
use Rattle.wat_c_records.specs.declared.answers.Look.{Look as LookRow}
use Rattle.wat_c_records.specs.declared.answers.NotVisible.{NotVisible}
use Rattle.wat_c_records.specs.declared.answers.NotVisible.TheVariants as unseen

-- `names_between start bytes ends` is the list of the names in `bytes` that end at these offsets. Each begins at the
-- end of the one before, the first at `start`. An end that is less than the start of its name, or greater than the
-- number of bytes, defines no name, but the next name begins there.
abbrev pub names_between : ℕ → List ℕ → List ℕ → List (List ℕ)
names_between start bytes [] = []
names_between start bytes (end ∷ ends) =
    if nat_le start end && nat_le end (length bytes)
    then take (end - start) (drop start bytes) ∷ names_between end bytes ends
    else names_between end bytes ends

-- `registered list` is the set of names that results from registering the names of the list.
abbrev pub registered : List (List ℕ) → Names
registered [] = no_names
registered (x ∷ xs) = more (registered xs) x

abbrev pub names_of : List ℕ → List ℕ → Names
names_of bytes ends = registered (names_between 0 bytes ends)

-- `shown_after s count names` is the token that is visible from the position after `count` significant tokens.
abbrev pub shown_after : Source → ℕ → Names → Look
shown_after s count names = shown s (raw_position s.tokens count) names

-- `IsNumber s number t`: `t` is the significant token at this index.
abbrev pub IsNumber : Source → ℕ → Token → Type 0
IsNumber s number t = slice_get (counting s.tokens) number ≡ Some t

-- `MeetsEscape s count names`: a peek from the position after `count` significant tokens reaches an annotation directly
-- after a `(`, whose name contains an escape. The same token is visible from this `(`, the significant token at index
-- `number`.
pub record MeetsEscape (s : Source) (count : ℕ) (names : Names) : Type 0 where
  pub number : ℕ
  pub paren : Token
  pub word : Token
  pub on : count ≤ number
  pub opens : IsNumber s number paren
  pub marked : IsMarked s.setting.text paren
  pub after : IsNumber s (number + 1) word
  pub annotation : word.kind ≡ Annotation
  pub escape : HasNoEscape (word_of s.setting.text word) → ⊥
  pub same : shown_after s count names ≡ shown_after s number names

-- `Looks s count names result`: a peek from the position after `count` significant tokens returns `result`, the index
-- of the visible token or the reason why none is visible.
pub data Looks (s : Source) (count : ℕ) (names : Names) : Result ℕ NotVisible → Type 0 where
  token : {number : ℕ} {t : Token} → IsNumber s number t → shown_after s count names ≡ Ok (Some (t, raw_position s.tokens (number + 1)))
      → Looks s count names (Ok number)
  end : s.ending ≡ None → shown_after s count names ≡ Ok None → Looks s count names (Err unseen.TextEnd)
  fault : {f : LexFault} → s.ending ≡ Some f → shown_after s count names ≡ Err (record { offset = f.offset; kind = Lex f.error })
      → Looks s count names (Err unseen.TextFault)
  unclosed : {number : ℕ} {t : Token} → s.ending ≡ None → IsNumber s number t → IsMarked s.setting.text t
      → shown_after s count names ≡ Err (record { offset = t.offset + 1; kind = Unclosed }) → Looks s count names (Err (unseen.Unclosed number))
  misnamed : {number : ℕ} {t : Token} {e : LexError} → IsNumber s number t → IsMisnamed s.setting.text t e
      → shown_after s count names ≡ Err (record { offset = t.offset; kind = Lex e }) → Looks s count names (Err (unseen.Misnamed number))
  memory : {refused : AllocError} → MeetsEscape s count names → Looks s count names (Err (unseen.Memory refused))

-- `look_row rows result` is the result of a peek as integers, for a table of `rows` rows.
abbrev pub look_row : ℕ → Result ℕ NotVisible → LookRow
look_row rows (Ok number) = record { row = number; status = 0 }
look_row rows (Err unseen.TextEnd) = record { row = rows; status = 1 }
look_row rows (Err (unseen.Memory refused)) = record { row = rows; status = 2 }
look_row rows (Err unseen.TextFault) = record { row = rows; status = 3 }
look_row rows (Err (unseen.Unclosed number)) = record { row = number; status = 4 }
look_row rows (Err (unseen.Misnamed number)) = record { row = number; status = 5 }

pub record LooksAsIntegers (s : Source) (rows count : ℕ) (names : Names) (look : LookRow) : Type 0 where
  pub answer : Result ℕ NotVisible
  pub looks : Looks s count names answer
  pub known : look ≡ look_row rows answer
