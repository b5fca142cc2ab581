-- WebAssembly 2.0, 5.4.1 and 6.5.2 (control instructions): the labels of `br_table`.
use Rattle.std.specs.Prelude.{ℕ, List}

-- 5.4.1, `br_table`: the labels of the table, and the default label.
pub record Branches : Type 0 where
  pub labels : List ℕ
  pub default : ℕ

abbrev pub branches : List ℕ → ℕ → Branches
branches ls n = record { labels = ls; default = n }
