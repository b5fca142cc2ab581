use Rattle.std.proofs.Common.{◌≡◌, ◌++◌, drop, replicate}
use Rattle.std.specs.List.{flat_map}
use Rattle.wat_module_encoder.specs.Binary.{run_bytes, runs_of}
use Rattle.wat_module_encoder.specs.Views.{bytes_of}
use Rattle.wat_module_encoder.proofs.code.put_runs.Given as goal

abbrev pub invariant-loop-local : goal.invariant-loop-local
invariant-loop-local l =
    l.initial.out.items ++ flat_map run_bytes (runs_of (bytes_of l.locals)) ≡ l.out.items ++ flat_map run_bytes (runs_of (replicate l.count l.byte ++ bytes_of (drop l.local-index l.locals)))
