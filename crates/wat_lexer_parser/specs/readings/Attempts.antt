-- The error of a lookahead that has peeked for several types: it lists the types that were expected. Not part of the
-- standard.
use Rattle.std.specs.Prelude.{ℕ, Bool, true, false, List, [], ◌∷◌, ◌++◌, ◌&&◌, codes, length, nat_le, not, Result, Ok, Err}
use Rattle.std.specs.List.{join_by}
use Rattle.wat_lex.specs.errors.Errors.{Report}
use Rattle.wat_lexer_parser.specs.parser.State.{State, report_here}
use Rattle.wat_lexer_parser.specs.places.Places.{empty_of}
use Rattle.wat_lexer_parser.specs.shown.Showing.{shown}

-- The descriptions of the types, separated by a comma and a space.
abbrev pub joined : List (List ℕ) → List ℕ
joined xs = join_by (λ x. x) (codes ", ") xs

-- The message if no type was expected. `true` states that the end of the text or a `)` is next.
abbrev pub unexpected : Bool → List ℕ
unexpected true = codes "unexpected end of input"
unexpected false = codes "unexpected token"

abbrev pub attempts_message : Bool → List (List ℕ) → List ℕ
attempts_message empty [] = unexpected empty
attempts_message empty (x ∷ []) = codes "unexpected token, expected " ++ x
attempts_message empty (x ∷ y ∷ []) = codes "unexpected token, expected " ++ (x ++ (codes " or " ++ y))
attempts_message empty (x ∷ y ∷ z ∷ xs) = codes "unexpected token, expected one of: " ++ joined (x ∷ y ∷ z ∷ xs)

-- The number of attempts that a lookahead stores without an allocation.
abbrev pub attempts_held : ℕ
attempts_held = 4

-- True if recording a type may allocate: the peek yielded `false`, and at least `attempts_held` attempts are stored.
abbrev pub needs_memory : List (List ℕ) → Result Bool Report → Bool
needs_memory xs (Ok seen) = not seen && nat_le attempts_held (length xs)
needs_memory xs (Err f) = false

abbrev pub attempts_report : State → List (List ℕ) → Report
attempts_report a xs =
    report_here a.source a.place a.names (attempts_message (empty_of (shown a.source a.place a.names)) xs)
