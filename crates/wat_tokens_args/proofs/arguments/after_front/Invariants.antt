use Rattle.std.proofs.Common.{◌≡◌, ◌≤◌, length}
use Rattle.wat_tokens_args.specs.Arguments.{after_front}
use Rattle.wat_tokens_args.proofs.arguments.after_front.Given as goal

abbrev pub decreases-loop-argument : goal.decreases-loop-argument
decreases-loop-argument l = length l.rest

abbrev pub invariant-loop-argument : goal.invariant-loop-argument
invariant-loop-argument l = record {
  rest : after_front l.rest ≡ after_front l.words;
  shorter : length l.rest ≤ length l.words;
}
