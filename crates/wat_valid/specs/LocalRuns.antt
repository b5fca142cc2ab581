-- WebAssembly 2.0, 5.5.13: the locals of a function in runs of one type, and the indices at which the runs end.
use Rattle.std.specs.Prelude.{◌≡◌, ◌<◌, ◌≤◌, ◌+◌, ◌^◌, ℕ, suc, List, [], ◌∷◌, length, take, get_or}
use Rattle.wat_module_ast.specs.declared.fields.Locals.{Locals}

-- The number of locals in runs.
abbrev pub local_count : List Locals → ℕ
local_count [] = 0
local_count (r ∷ rs) = r.count + local_count rs

-- `RunEnds runs ends`: `ends` has, for each run up to a certain one, the number of locals in it and in the runs before it. If
-- runs are left, this number is at least 2^64 for the first of them, so that it has all larger indices.
pub record RunEnds (runs : List Locals) (ends : List ℕ) : Type 0 where
  pub within : length ends ≤ length runs
  pub each : (k : ℕ) → k < length ends → get_or ends k 0 ≡ local_count (take (suc k) runs)
  pub others : length ends < length runs → 2 ^ 64 ≤ local_count (take (suc (length ends)) runs)
