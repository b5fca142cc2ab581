-- The state of a parser as its callers see it, and the results of its calls. Not part of the standard.
use Rattle.std.specs.Prelude.{ℕ, ◌≤◌, ◌<◌, ◌^◌, nat_lt, nat_eq, List, length, codes, Bool, ◌||◌, if◌then◌else◌}
use Rattle.std.specs.Prelude.{◌≡◌, is_err, IsErrAnd, IsTrue, IsUtf8, Option, Some, None, Result, Ok, Err}
use Rattle.wat_lexer_parser.specs.names.RegisteredNames.{IsPositive, count, more, max_registrations}
pub use Rattle.wat_lex.specs.errors.Errors.{Report, Custom, lexical, report_in, IsUnlessMemory}
pub use Rattle.wat_lexer_parser.specs.places.Places.{current_span, offset_at, comment_at}
pub use Rattle.wat_lexer_parser.specs.shown.Showing.{Look, shown, Names, Source, IsRead, Token, TokenKind, Fault, Lex, Unclosed}

-- The state of a parser: its text with the raw tokens, its position (the number of raw tokens passed), the registered
-- names, and the number of open groups.
pub record State : Type 0 where
  pub source : Source
  pub place : ℕ
  pub names : Names
  pub depth : ℕ

-- The invariant of a parser's state: the tokens are the raw tokens of the text, which is UTF-8 and shorter than 2^32
-- bytes; there are fewer than 2^63 tokens; the position is among them; at most as many groups are open as tokens were
-- passed; and no registered name has count 0.
pub record IsSound (a : State) : Type 0 where
  pub read : IsRead a.source
  pub utf8 : IsUtf8 a.source.setting.text
  pub short : length a.source.setting.text < 2 ^ 32
  pub within : a.place ≤ length a.source.tokens
  pub small : length a.source.tokens < 2 ^ 63
  pub deep : a.depth ≤ a.place
  pub counts : IsPositive a.names

-- The error report of a fault that a peek reaches. An unclosed annotation is reported without its source line.
unfoldable pub report_of : List ℕ → Fault → Report
report_of text f = elim f.kind [
  | Lex e ↦ lexical text (record { offset = f.offset; error = e })
  | Unclosed ↦ record { offset = f.offset; cause = Custom (codes "unclosed annotation"); excerpt = None }
]

-- The error report of a message at a byte offset of the text.
abbrev pub message_at : Source → ℕ → List ℕ → Report
message_at s offset message = report_in s.setting.text offset (Custom message)

-- The error report of a message at the current span of a position, under registered names.
abbrev pub report_here : Source → ℕ → Names → List ℕ → Report
report_here s p names message = message_at s (current_span s p names) message

-- The result of a peek as callers see it: a token with the position after it, `None` at the end of the text, or an
-- error report.
abbrev pub Seen : Type 0
Seen = Result (Option (Token × ℕ)) Report

abbrev pub known : List ℕ → Look → Seen
known text (Ok found) = Ok found
known text (Err f) = Err (report_of text f)

unfoldable pub seen : Source → ℕ → Names → Seen
seen s p names = known s.setting.text (shown s p names)

-- The result of a peek from a parser's state.
abbrev pub peek_at : State → Seen
peek_at a = seen a.source a.place a.names

-- The state with another position, as a cursor has it.
abbrev pub at_place : State → ℕ → State
at_place a p = record { source = a.source; place = p; names = a.names; depth = a.depth }

-- `Answers takes f m result`: the call's result agrees with the specified result `m`. A returned value is seen by
-- callers through `f`. An allocation failure (`Err None`) is permitted only if `m` is an error, or if `takes` states
-- that the value itself may allocate.
abbrev pub Answers : {V T : Type 0} → Bool → (T → V) → Result V Report → Result T (Option Report) → Type 0
Answers takes f m (Ok x) = m ≡ Ok (f x)
Answers takes f m (Err None) = IsTrue (takes || is_err m)
Answers takes f m (Err (Some e)) = m ≡ Err e

-- `m` is an error, and `e` is its report, or `None` for an allocation failure.
abbrev pub IsRefusal : {V : Type 0} → Result V Report → Option Report → Type 0
IsRefusal m e = IsErrAnd m (IsUnlessMemory e)

-- Success if at most 100 groups are open, otherwise an error at the current span.
abbrev pub depth_checked : State → Result (Unit {0}) Report
depth_checked s = if nat_lt 100 s.depth then Err (report_here s.source s.place s.names (codes "item nesting too deep")) else Ok tt

-- The error of registering a name with the greatest count. Its offset is that of the position, and it has no source
-- line.
abbrev pub too_often : State → Report
too_often s = record { offset = offset_at s.source.tokens s.place; cause = Custom (codes "annotation registered too often"); excerpt = None }

-- The state after one more registration of the name `x`, or the error if its count is the greatest one.
abbrev pub registered : State → List ℕ → Result State Report
registered s x = if nat_eq (count s.names x) max_registrations then Err (too_often s) else Ok (record s { names = more s.names x })
