-- The results of calls that take closures, and the effect of consuming a parenthesis. Not part of the standard.
use Rattle.std.specs.Prelude.{ℕ, ◌+◌, ◌≡◌, ◌<◌, ◌⊎◌, codes, Option, Result, Ok, Err}
use Rattle.wat_lexer_parser.specs.parser.State.{State, IsRefusal, report_here, seen, Report, Names, Source}
use Rattle.wat_lexer_parser.specs.Cases.{cases_of}
use Rattle.wat_lexer_parser.specs.parser.Takers.{taken, as_open, as_close}

-- The position after the visible `(`, or the error at the current span.
unfoldable pub opened : Source → ℕ → Names → Result ℕ Report
opened s p names = cases_of (taken as_open s.setting.text (seen s p names)) (Err (report_here s p names (codes "expected `(`"))) (λ v q. Ok q) Err

-- The position after the visible `)`, or the error at the current span.
unfoldable pub closed : Source → ℕ → Names → Result ℕ Report
closed s p names = cases_of (taken as_close s.setting.text (seen s p names)) (Err (report_here s p names (codes "expected `)`"))) (λ v q. Ok q) Err

-- The state in which `parens` calls its closure: at a position after `(`, with one more open group.
abbrev pub inside : State → ℕ → State
inside a p = record { source = a.source; place = p; names = a.names; depth = a.depth + 1 }

module _ {T : Type 0} where
  -- `ParensOk R a t b`: `parens` returns `t` and changes the state from `a` to `b`. `R` relates the closure's state,
  -- its result and the state that it leaves. The parenthesis before the closure's tokens and the one after them are
  -- consumed; each is at least one raw token.
  abbrev pub ParensOk : (State → Result T (Option Report) → State → Type 0) → State → T → State → Type 0
  ParensOk R a t b =
      (p : ℕ) × (q : State) × (opened a.source a.place a.names ≡ Ok p) × (a.place < p) × R (inside a p) (Ok t) q × (closed a.source q.place q.names ≡ Ok b.place) × (q.place < b.place) × (b ≡ record a { place = b.place; names = q.names })

  -- `ParensErr R a e b`: `parens` returns the error `e`, because no `(` is visible, the closure fails, or no `)` is
  -- visible after it. The position and the number of open groups are restored; the names stay as the closure leaves
  -- them.
  abbrev pub ParensErr : (State → Result T (Option Report) → State → Type 0) → State → Option Report → State → Type 0
  ParensErr R a e b =
      ((b ≡ a) × IsRefusal (opened a.source a.place a.names) e)
      ⊎ ((p : ℕ) × (q : State) × (opened a.source a.place a.names ≡ Ok p) × R (inside a p) (Err e) q × (b ≡ record a { names = q.names }))
      ⊎ ((p : ℕ) × (q : State) × (t : T) × (opened a.source a.place a.names ≡ Ok p) × R (inside a p) (Ok t) q × (b ≡ record a { names = q.names }) × IsRefusal (closed a.source q.place q.names) e)
