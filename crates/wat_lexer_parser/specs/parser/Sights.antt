-- The results of peeking for a type, at a parser's position or after the visible token. Not part of the standard.
use Rattle.std.specs.Prelude.{ℕ, Bool, false, Option, Result, Ok, Err}
use Rattle.wat_lexer_parser.specs.parser.State.{State, Answers, at_place, peek_at, Report}
use Rattle.wat_lexer_parser.specs.Cases.{cases_of}
use Rattle.wat_lexer_parser.specs.parser.Takers.{Reader, sees_at}

-- The result of a peek for a type: `true` if its token is next, `false` if not, or an error report. `takes` is true if
-- returning the result may allocate.
pub record Sighting : Type 0 where
  pub known : Result Bool Report
  pub takes : Bool

-- A peek for a type, as a function of the parser's state.
abbrev pub Sight : Type 0
Sight = State → Sighting

-- `PeekIs s result`: a call that peeks returns what `s` specifies. An allocation failure is permitted only if `s` is an
-- error or may allocate.
abbrev pub PeekIs : Sighting → Result Bool (Option Report) → Type 0
PeekIs s result = Answers s.takes (λ b. b) s.known result

-- A result that is returned without an allocation.
abbrev pub without_allocation : Result Bool Report → Sighting
without_allocation known = record { known = known; takes = false }

-- A peek for a token of one kind.
abbrev pub sight_of : {V : Type 0} → Reader V → Sight
sight_of read a = without_allocation (sees_at read a)

-- A peek after the token `found` at the parser's position. The result is `false` if none was found.
abbrev pub seen_after : {A : Type 0} → Sight → State → Result (Option (A × ℕ)) Report → Sighting
seen_after sight a found = cases_of found (without_allocation (Ok false)) (λ v q. sight (at_place a q)) (λ f. without_allocation (Err f))

-- A peek after the visible token.
abbrev pub second : Sight → Sight
second sight a = seen_after sight a (peek_at a)
