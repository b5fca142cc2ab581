use Rattle.std.proofs.Common.{sym, ap, ◌∙◌}
use Rattle.wat_tokens_args.specs.Arguments.{first_of}
use Rattle.wat_tokens_args.proofs.ArgumentLaws.{args_nil}
use Rattle.wat_tokens_args.proofs.arguments.first.Goals as goal

pub returns : goal.returns
returns c = sym (ap (first_of c.args.kind) (args_nil c.loop-argument.rest.now c.in_default.ensures)) ∙ c.loop-argument.invariant
