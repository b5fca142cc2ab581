use Rattle.std.proofs.Common.{◌≡◌, ◌+◌, length}
use Rattle.wat_tokens_args.specs.Arguments.{args_of, times}
use Rattle.wat_tokens_args.proofs.arguments.times.Given as goal

abbrev pub decreases-loop-argument : goal.decreases-loop-argument
decreases-loop-argument l = length l.rest

abbrev pub invariant-loop-argument : goal.invariant-loop-argument
invariant-loop-argument l = l.count + times l.kind (args_of l.rest) ≡ times l.kind (args_of l.words)
