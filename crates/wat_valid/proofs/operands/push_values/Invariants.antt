use Rattle.std.proofs.Common.{◌≡◌, ◌++◌, take}
use Rattle.wat_valid.specs.Contexts.{values}
use Rattle.wat_valid.proofs.operands.push_values.Given as goal

abbrev pub invariant-loop-of : goal.invariant-loop-of
invariant-loop-of l = (l.operands.is_unreachable ≡ l.fn.operands.is_unreachable) × (l.operands.types.items ≡ l.fn.operands.types.items ++ values (take l.of-index l.types))
