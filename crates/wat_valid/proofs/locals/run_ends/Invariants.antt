use Rattle.std.proofs.Common.{◌≡◌, length, take}
use Rattle.wat_valid.specs.LocalRuns.{local_count}
use Rattle.wat_valid.proofs.Runs.{Ends}
use Rattle.wat_valid.proofs.locals.run_ends.Given as goal

abbrev pub invariant-loop-run : goal.invariant-loop-run
invariant-loop-run l = record {
  size : length l.ends.items ≡ l.run-index;
  counted : l.count ≡ local_count (take l.run-index l.runs);
  each : Ends l.runs l.ends.items;
}
