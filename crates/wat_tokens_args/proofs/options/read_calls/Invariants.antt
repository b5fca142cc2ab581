use Rattle.std.proofs.Common.{take}
use Rattle.wat_tokens_args.specs.Options.{NamesCalls}
use Rattle.wat_tokens_args.proofs.options.read_calls.Given as goal

abbrev pub invariant-loop-word : goal.invariant-loop-word
invariant-loop-word l = NamesCalls (take l.word-index l.words) l.calls.items
