-- The map of the spans in an import list. It is not part of the standard.
use Rattle.std.specs.Prelude.{ℕ, List, map}
use Rattle.std.specs.Option.{option_map}
use Rattle.wat_format_theorems.specs.lemmas.Types.{spelled_moved}
use Rattle.example_imports.specs.Imports.{Read}

-- `entry_moved move e` is the entry with the span of its identifier mapped.
abbrev pub entry_moved : (ℕ → ℕ) → Read → Read
entry_moved move e = record e { id = option_map (spelled_moved move) e.id }

abbrev pub imports_moved : (ℕ → ℕ) → List Read → List Read
imports_moved move = map (entry_moved move)
