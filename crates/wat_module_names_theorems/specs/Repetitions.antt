-- WebAssembly 2.0, 6.1.3 (contexts): no two items of a kind have the same identifier. The converse of `RepeatedIsFirst` in
-- `wat_module_ast.specs.Names`.
use Rattle.std.specs.Prelude.{◌≡◌, ℕ, true, List, Some, None}
use Rattle.wat_module_ast.specs.Names.{Repeats, are_distinct, repeated}
use Rattle.wat_module_tokens.specs.Terminals.{Label}

-- Theorem: `repeated` returns each first repetition, of which there is therefore at most one, and none if the identifiers
-- are distinct.
pub record FirstIsRepeated (labels : List Label) : Type 0 where
  pub found : (i j : ℕ) → Repeats labels i j → repeated labels ≡ Some (i, j)
  pub none : are_distinct labels ≡ true → repeated labels ≡ None
