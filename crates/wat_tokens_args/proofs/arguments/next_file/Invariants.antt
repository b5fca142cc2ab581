use Rattle.std.proofs.Common.{◌≡◌, length}
use Rattle.wat_tokens_args.specs.Arguments.{args_of, files_in}
use Rattle.wat_tokens_args.proofs.arguments.next_file.Given as goal

abbrev pub decreases-loop-argument : goal.decreases-loop-argument
decreases-loop-argument l = length l.rest

abbrev pub invariant-loop-argument : goal.invariant-loop-argument
invariant-loop-argument l = files_in (args_of l.rest) ≡ files_in (args_of l.words)
