use Rattle.std.proofs.Common.{◌≡◌, length}
use Rattle.wat_tokens_args.specs.Arguments.{args_of}
use Rattle.wat_tokens_args.specs.Options.{take_all}
use Rattle.wat_tokens_args.proofs.options.accepts_all.Given as goal

abbrev pub invariant-loop-argument : goal.invariant-loop-argument
invariant-loop-argument l = take_all l.verb (args_of l.rest) ≡ take_all l.verb (args_of l.words)

abbrev pub decreases-loop-argument : goal.decreases-loop-argument
decreases-loop-argument l = length l.rest
