-- The promise of calls that parse: the value or error of a reading, and the position after it. Not part of the
-- standard.
use Rattle.std.specs.Prelude.{◌≡◌, ◌<◌, ◌+◌, ℕ, IsTrue, Option, Some, None, Result, Ok, Err}
use Rattle.wat_lex.specs.errors.Errors.{Report}
use Rattle.wat_lexer_parser.specs.parser.State.{State, at_place}
use Rattle.wat_lexer_parser.specs.readings.Readings.{Reading}

-- Both states are equal except for the position.
abbrev pub IsKept : State → State → Type 0
IsKept a b = b ≡ at_place a b.place

-- `Reads f m a result q`: a call that parses from the state `a` returns `result` and leaves the position `q`, as the
-- reading `m` specifies. Callers see a returned value through `f`. An allocation failure is permitted only if the
-- reading may allocate.
abbrev pub Reads : {V T : Type 0} → (T → V) → Reading V → State → Result T (Option Report) → ℕ → Type 0
Reads f m a (Ok x) q = ((m a).answer ≡ Ok (f x)) × (a.place + (m a).passed ≡ q)
Reads f m a (Err None) q = IsTrue (m a).takes_memory
Reads f m a (Err (Some e)) q = ((m a).answer ≡ Err e) × (a.place + (m a).passed ≡ q)

-- A value of this reading consumes at least one token.
abbrev pub Advances : {V : Type 0} → Reading V → Type 0
Advances {V} m = (a : State) (v : V) → (m a).answer ≡ Ok v → 0 < (m a).passed

-- `CursorReads f m a at result`: like `Reads`, for a function from a cursor to the cursor after the value. `at` gives
-- a cursor's position. After an error no token is consumed.
abbrev pub CursorReads : {V T C : Type 0} → (T → V) → Reading V → State → (C → ℕ) → Result (T × C) (Option Report) → Type 0
CursorReads f m a at (Ok v) = ((m a).answer ≡ Ok (f v.0)) × (a.place + (m a).passed ≡ at v.1)
CursorReads f m a at (Err None) = IsTrue (m a).takes_memory
CursorReads f m a at (Err (Some e)) = ((m a).answer ≡ Err e) × ((m a).passed ≡ 0)
