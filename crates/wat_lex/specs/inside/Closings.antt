-- The number of open block comments that a text can close.
use Rattle.std.specs.Prelude.{◌<◌, ℕ, List}
use Rattle.wat_lex.specs.inside.Nesting.{Closings}

-- `ClosesAtMost n t`: of more than `n` block comments that are open before the text `t`, not all are closed in it.
abbrev pub ClosesAtMost : ℕ → List ℕ → Type 0
ClosesAtMost n t = (k : ℕ) (r : List ℕ) → n < k → Closings k t r → ⊥
