use Rattle.std.proofs.Common.{◌≡◌, ◌≤◌, length, drop, Some}
use Rattle.wat_valid.specs.Algorithm as algorithm
use Rattle.wat_valid.proofs.operands.pop_values.Given as goal

abbrev pub decreases-loop-left : goal.decreases-loop-left
decreases-loop-left l = l.left

abbrev pub invariant-loop-left : goal.invariant-loop-left
invariant-loop-left l = (l.left ≤ length l.expected) × (l.operands.is_unreachable ≡ l.fn.operands.is_unreachable) × (algorithm.pop_values l.fn.operands.is_unreachable l.fn.operands.types.items (drop l.left l.expected) ≡ Some l.operands.types.items)
