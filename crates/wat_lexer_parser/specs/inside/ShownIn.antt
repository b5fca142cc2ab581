-- `Shown` as a function of the raw tokens. By the theorem `shown` the relation holds of this function's results alone,
-- so a reader of `Shown` may skip this file. Not part of the standard.
use Rattle.std.specs.Prelude.{ℕ, zero, suc, List, [], ◌∷◌, if◌then◌else◌, Option, Some, None, Result, Ok, Err}
use Rattle.wat_lex.specs.tokens.ReadableTokens.{word_of}
use Rattle.wat_lex.specs.values.WordValues.{name_value}
use Rattle.wat_lex.specs.declared.lexer.faults.LexError.{LexError}
use Rattle.wat_lex.specs.declared.lexer.faults.LexError.TheVariants.{EmptyAnnotation}
use Rattle.wat_lex.specs.declared.lexer.faults.LexFault.{LexFault}
use Rattle.wat_lex.specs.declared.lexer.kinds.Token.{Token}
use Rattle.wat_lex.specs.declared.lexer.kinds.TokenKind.{TokenKind}
use Rattle.wat_lex.specs.declared.lexer.kinds.TokenKind.TheVariants.{LineComment, BlockComment, Whitespace, LParen, RParen, Annotation}
use Rattle.wat_lexer_parser.specs.declared.parser.fault.FaultKind.TheVariants.{Lex}
use Rattle.wat_lexer_parser.specs.declared.parser.fault.Step.{Step}
use Rattle.wat_lexer_parser.specs.declared.parser.fault.Step.TheVariants.{Pass, Take, Finish, Refuse, Skip}
use Rattle.wat_lex.specs.tokens.Blanks.{is_marked}
use Rattle.wat_lexer_parser.specs.names.RegisteredNames.{Names, is_registered}
use Rattle.wat_lexer_parser.specs.shown.Shown.{Finding, ended, unclosed_ending}

abbrev pub name_by : TokenKind → List ℕ → Token → Option (Result (List ℕ) LexError)
name_by Annotation text t = Some (name_value EmptyAnnotation (word_of text t))
name_by kind text t = None

-- The name of an annotation, or the error in it; `None` for a token of another kind.
abbrev pub name_at : List ℕ → Token → Option (Result (List ℕ) LexError)
name_at text t = name_by t.kind text t

-- The step for a token, given the token that follows it: skip the token, return it, skip its group, or return an
-- error.
abbrev pub step_named : Names → Token → Option (Result (List ℕ) LexError) → Step
step_named names u None = Take
step_named names u (Some (Err e)) = Refuse (record { offset = u.offset; kind = Lex e })
step_named names u (Some (Ok x)) = if is_registered names x then Take else Skip

abbrev pub step_next : List ℕ → Names → Option Token → Step
step_next text names None = Finish
step_next text names (Some u) = step_named names u (name_at text u)

abbrev pub step_kind : List ℕ → Names → Token → TokenKind → Option Token → Step
step_kind text names t Whitespace u = Pass
step_kind text names t LineComment u = Pass
step_kind text names t BlockComment u = Pass
step_kind text names t LParen u = if is_marked text t then step_next text names u else Take
step_kind text names t kind u = Take

abbrev pub step_of : List ℕ → Names → Token → Option Token → Step
step_of text names t u = step_kind text names t t.kind u

-- The state of the traversal: outside of skipped groups, or inside the group opened at a token, with a number of inner
-- groups open.
pub data Mode : Type 0 where
  Showing : Mode
  Inside : Token → ℕ → Mode

abbrev pub closed_one : Token → ℕ → Mode
closed_one o zero = Showing
closed_one o (suc d) = Inside o d

abbrev pub after : TokenKind → Token → ℕ → Mode
after LParen o d = Inside o (suc d)
after RParen o d = closed_one o d
after kind o d = Inside o d

abbrev pub first : List Token → Option Token
first [] = None
first (t ∷ r) = Some t

unfoldable pub shown_in : List ℕ → Option LexFault → Names → Mode → List Token → Finding
shown_in text ending names Showing [] = ended ending
shown_in text ending names (Inside o d) [] = unclosed_ending ending o
shown_in text ending names Showing (t ∷ r) = elim (step_of text names t (first r)) [
  | Pass ↦ shown_in text ending names Showing r
  | Take ↦ Ok (Some (t, r))
  | Finish ↦ ended ending
  | Refuse f ↦ Err f
  | Skip ↦ shown_in text ending names (Inside t 0) r
]
shown_in text ending names (Inside o d) (t ∷ r) = shown_in text ending names (after t.kind o d) r
