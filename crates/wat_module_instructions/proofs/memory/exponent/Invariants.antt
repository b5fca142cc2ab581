use Rattle.std.proofs.Common.{◌≡◌, ◌≤◌, ◌^◌}
use Rattle.wat_module_ast.specs.Memory.{exponent_below}
use Rattle.wat_module_instructions.proofs.memory.exponent.Given as goal

abbrev pub invariant-loop-n : goal.invariant-loop-n
invariant-loop-n l = (l.power ≡ 2 ^ l.n) × (l.n ≤ 32) × (exponent_below 32 l.of ≡ exponent_below l.n l.of)

abbrev pub decreases-loop-n : goal.decreases-loop-n
decreases-loop-n l = l.n
