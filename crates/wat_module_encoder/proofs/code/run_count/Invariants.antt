use Rattle.std.proofs.Common.{◌≡◌, ◌+◌, ◌++◌, ◌≤◌, length, drop, replicate}
use Rattle.wat_module_encoder.specs.Binary.{runs_of}
use Rattle.wat_module_encoder.specs.Views.{bytes_of}
use Rattle.wat_module_encoder.proofs.code.run_count.Given as goal

abbrev pub invariant-loop-local : goal.invariant-loop-local
invariant-loop-local l = (length (runs_of (bytes_of l.locals)) ≡ l.runs + length (runs_of (replicate l.count l.byte ++ bytes_of (drop l.local-index l.locals)))) × (l.runs ≤ l.local-index)
