-- The language of readings, in which types specify what they parse, over visible tokens, texts, natural numbers and
-- the registered names. A production of the text format's grammar is one reading. Not part of the standard.
use Rattle.std.specs.Prelude.{ℕ, zero, suc, ◌+◌, ◌-◌, ◌||◌, Bool, true, false, not, List, [], ◌∷◌, length, codes, Option, Some, None, Result, Ok, Err}
use Rattle.std.specs.List.{flat_map}
use Rattle.wat_lex.specs.errors.Errors.{Report}
use Rattle.wat_lexer_parser.specs.names.RegisteredNames.{no_names, is_registered}
use Rattle.wat_lexer_parser.specs.parser.Closures.{opened, closed, inside}
use Rattle.wat_lexer_parser.specs.parser.Sights.{Sight, without_allocation}
use Rattle.wat_lexer_parser.specs.parser.State.{State, Seen, at_place, peek_at, report_here, message_at, registered}
use Rattle.wat_lexer_parser.specs.parser.Takers.{Reader, token_value_at, allocates_at}
use Rattle.wat_lexer_parser.specs.places.Places.{current_span, empty_of, offset_at}
use Rattle.wat_lexer_parser.specs.places.Source.{Source}
use Rattle.wat_lexer_parser.specs.shown.Showing.{shown}

-- The outcome of a reading: a value or an error, and the number of raw tokens passed. `takes_memory` is true if the
-- reading may allocate, which it may before every error.
pub record Outcome (V : Type 0) : Type 0 where
  pub answer : Result V Report
  pub passed : ℕ
  pub takes_memory : Bool

-- A reading: a function from a parser's state to an outcome.
abbrev pub Reading : Type 0 → Type 0
Reading V = State → Outcome V

abbrev pub given : {V : Type 0} → V → ℕ → Bool → Outcome V
given v n takes = record { answer = Ok v; passed = n; takes_memory = takes }

abbrev pub refused : {V : Type 0} → Report → ℕ → Outcome V
refused f n = record { answer = Err f; passed = n; takes_memory = true }

-- The state after `n` more raw tokens.
abbrev pub on : State → ℕ → State
on a n = at_place a (a.place + n)

-- The value `v`, with no token consumed.
abbrev pub give : {V : Type 0} → V → Reading V
give v a = given v 0 false

-- An error with this message at the current span.
abbrev pub refuse : {V : Type 0} → List ℕ → Reading V
refuse message a = refused (report_here a.source a.place a.names message) 0

-- An error with this message at the position itself, which is the end of the last consumed token.
abbrev pub refuse_after : {V : Type 0} → List ℕ → Reading V
refuse_after message a = refused (message_at a.source (offset_at a.source.tokens a.place) message) 0

abbrev pub token_by : {V : Type 0} → Result (Option (V × ℕ)) Report → Bool → Outcome V → ℕ → Outcome V
token_by (Ok None) takes other p = other
token_by (Ok (Some (v, q))) takes other p = given v (q - p) takes
token_by (Err f) takes other p = refused f 0

-- The value of the visible token if it has the reader's kind, otherwise an error with this message at the current
-- span.
abbrev pub token : {V : Type 0} → Reader V → List ℕ → Reading V
token read message a = token_by (token_value_at read a) (allocates_at read a) (refuse message a) a.place

abbrev pub also_taking : {V : Type 0} → Bool → Outcome V → Outcome V
also_taking takes o = record { answer = o.answer; passed = o.passed; takes_memory = takes || o.takes_memory }

-- An outcome after a reading that passed `n` tokens and may allocate if `takes` is true.
abbrev pub after : {V : Type 0} → ℕ → Bool → Outcome V → Outcome V
after n takes o = record { answer = o.answer; passed = n + o.passed; takes_memory = takes || o.takes_memory }

abbrev pub and_then_by : {V W : Type 0} → Result V Report → ℕ → Bool → (V → Reading W) → State → Outcome W
and_then_by (Ok v) n takes next a = after n takes (next v (on a n))
and_then_by (Err f) n takes next a = refused f n

-- A reading followed by another, which may depend on the first value.
abbrev pub and_then : {V W : Type 0} → Reading V → (V → Reading W) → Reading W
and_then m next a = and_then_by (m a).answer (m a).passed (m a).takes_memory next a

abbrev pub known_as : {V W : Type 0} → (V → W) → Result V Report → Result W Report
known_as f (Ok v) = Ok (f v)
known_as f (Err r) = Err r

abbrev pub mapped_by : {V W : Type 0} → (V → W) → Outcome V → Outcome W
mapped_by f o = record { answer = known_as f o.answer; passed = o.passed; takes_memory = o.takes_memory }

-- The reading's value, mapped by `f`.
abbrev pub mapped : {V W : Type 0} → (V → W) → Reading V → Reading W
mapped f m a = mapped_by f (m a)

-- The reading's value with the current span at its start.
abbrev pub spanned : {V : Type 0} → Reading V → Reading (V × ℕ)
spanned m a = mapped_by (λ v. (v, current_span a.source a.place a.names)) (m a)

-- The values of two readings, one after the other.
abbrev pub pair : {V W : Type 0} → Reading V → Reading W → Reading (V × W)
pair m n = and_then m (λ v. mapped (λ w. (v, w)) n)

-- The reading's value in an allocation of its own.
abbrev pub allocated : {V : Type 0} → Reading V → Reading V
allocated m a = also_taking true (m a)

abbrev pub passed_by : {W : Type 0} → Option W → Outcome W → ℕ → Bool → Outcome W
passed_by (Some w) other n takes = given w n takes
passed_by None other n takes = other

abbrev pub checked_by : {V W : Type 0} → Result V Report → Outcome V → (V → Option W) → Outcome W → Outcome W
checked_by (Ok v) o check other = passed_by (check v) other o.passed o.takes_memory
checked_by (Err f) o check other = refused f o.passed

-- The result of `check` for the reading's value. If it is `None`, no token is consumed, and the error has this message
-- at the current span before the value.
abbrev pub checked : {V W : Type 0} → (V → Option W) → List ℕ → Reading V → Reading W
checked check message m a = checked_by (m a).answer (m a) check (refuse message a)

abbrev pub where_seen_by : {V : Type 0} → Result Bool Report → Bool → Outcome V → Outcome V → Outcome V
where_seen_by (Ok true) takes o other = also_taking takes o
where_seen_by (Ok false) takes o other = also_taking takes other
where_seen_by (Err f) takes o other = refused f 0

-- The first reading if the peek yields `true`, the second if it yields `false`.
abbrev pub where_seen : {V : Type 0} → Sight → Reading V → Reading V → Reading V
where_seen sight m other a = where_seen_by (sight a).known (sight a).takes (m a) (other a)

-- A value if the peek yields `true`, otherwise `None`.
abbrev pub optional : {V : Type 0} → Sight → Reading V → Reading (Option V)
optional sight m = where_seen sight (mapped (λ v. Some v) m) (give None)

-- A value prepended to the values of a second reading, in a list that is allocated.
abbrev pub also_first : {V : Type 0} → Reading V → Reading (List V) → Reading (List V)
also_first m rest = allocated (and_then m (λ v. mapped (λ vs. v ∷ vs) rest))

-- Up to `n` values, as long as the peek yields `true`. If `n` is exhausted, the reading is an error.
abbrev pub up_to : {V : Type 0} → ℕ → Sight → Reading V → Reading (List V)
up_to zero sight m = refuse []
up_to (suc n) sight m = where_seen sight (also_first m (up_to n sight m)) (give [])

-- All values as long as the peek yields `true`, as a list. If each value consumes a token (`Advances`), the bound of
-- `up_to` is never reached, because there are at most as many values as tokens.
unfoldable pub while_seen : {V : Type 0} → Sight → Reading V → Reading (List V)
while_seen sight m a = up_to (suc (length a.source.tokens)) sight m a

-- True unless a `)` or the end of the text is visible; true at an error.
abbrev pub more_comes : Sight
more_comes a = without_allocation (Ok (not (empty_of (shown a.source a.place a.names))))

-- All values up to `)` or the end of the text.
abbrev pub many : {V : Type 0} → Reading V → Reading (List V)
many m = while_seen more_comes m

-- The concatenation of consecutive lists, which are read as long as the peek yields `true`.
abbrev pub joined_while : {V : Type 0} → Sight → Reading (List V) → Reading (List V)
joined_while sight m = mapped (λ vss. flat_map (λ vs. vs) vss) (while_seen sight m)

abbrev pub closed_by : {V : Type 0} → Result ℕ Report → V → Bool → ℕ → Outcome V
closed_by (Ok q) v takes p = given v (q - p) takes
closed_by (Err f) v takes p = refused f 0

abbrev pub inside_by : {V : Type 0} → Result V Report → Outcome V → State → State → Outcome V
inside_by (Ok v) o b a = closed_by (closed a.source (b.place + o.passed) a.names) v o.takes_memory a.place
inside_by (Err f) o b a = refused f 0

abbrev pub opened_by : {V : Type 0} → Result ℕ Report → Reading V → Reading V
opened_by (Ok p) m a = inside_by (m (inside a p)).answer (m (inside a p)) (inside a p) a
opened_by (Err f) m a = refused f 0

-- A group: `(`, the contents, `)`. After an error no token is consumed.
abbrev pub group : {V : Type 0} → Reading V → Reading V
group m a = opened_by (opened a.source a.place a.names) m a

abbrev pub under_by : {V : Type 0} → Result State Report → Bool → Reading V → Outcome V
under_by (Ok b) takes m = also_taking takes (m b)
under_by (Err f) takes m = refused f 0

-- A reading during which the name `x` is registered once more. If its count is already the greatest, this is an error
-- at the position.
abbrev pub under : {V : Type 0} → List ℕ → Reading V → Reading V
under x m a = under_by (registered a x) (not (is_registered a.names x)) m

-- The state before a text, with no registered names and no open groups.
abbrev pub start : Source → State
start s = record { source = s; place = 0; names = no_names; depth = 0 }

abbrev pub at_end : {V : Type 0} → Seen → V → Source → Result V Report
at_end (Ok None) v s = Ok v
at_end (Ok (Some (t, q))) v s = Err (message_at s t.offset (codes "extra tokens remaining after parse"))
at_end (Err f) v s = Err f

abbrev pub whole_by : {V : Type 0} → Result V Report → ℕ → Source → Result V Report
whole_by (Ok v) n s = at_end (peek_at (on (start s) n)) v s
whole_by (Err f) n s = Err f

-- A reading of a whole text. A token that is left is an error, and so is a lexical error after the value.
abbrev pub whole : {V : Type 0} → Reading V → Source → Result V Report
whole m s = whole_by (m (start s)).answer (m (start s)).passed s

abbrev pub whole_may_allocate : {V : Type 0} → Reading V → Source → Bool
whole_may_allocate m s = (m (start s)).takes_memory
