use Rattle.std.proofs.Common.{◌≤◌, ◌-◌, length}
use Rattle.wat_module_custom.proofs.Signs.{NoneBefore}
use Rattle.wat_module_custom.proofs.search.may_have.Given as goal

abbrev pub invariant-loop-ahead : goal.invariant-loop-ahead
invariant-loop-ahead l = (l.at ≤ length l.bytes) × NoneBefore l.sought l.bytes l.at

abbrev pub decreases-loop-ahead : goal.decreases-loop-ahead
decreases-loop-ahead l = length l.bytes - l.at
