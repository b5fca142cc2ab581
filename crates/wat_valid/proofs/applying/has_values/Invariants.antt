use Rattle.std.proofs.Common.{◌≡◌, ◌≤◌, length, drop, take, Some}
use Rattle.wat_valid.specs.Algorithm as algorithm
use Rattle.wat_valid.proofs.applying.has_values.Given as goal

abbrev pub decreases-loop-left : goal.decreases-loop-left
decreases-loop-left l = l.left

abbrev pub invariant-loop-left : goal.invariant-loop-left
invariant-loop-left l = (l.left ≤ length l.expected) × (l.top ≤ length l.operands.types.items) × (algorithm.pop_values l.operands.is_unreachable l.operands.types.items (drop l.left l.expected) ≡ Some (take l.top l.operands.types.items))
