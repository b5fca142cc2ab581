use Rattle.std.proofs.Common.{◌≡◌, ◌≤◌, ◌+◌, length}
use Rattle.wat_tokens_output.proofs.named.are_many.Given as goal

abbrev pub invariant-loop-c : goal.invariant-loop-c
invariant-loop-c l = (l.count ≤ 500) × (length l._c-iterator + l.count ≡ length l.fn.characters)
