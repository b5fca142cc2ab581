use Rattle.std.proofs.Common.{sym, ap, ◌∙◌}
use Rattle.wat_tokens_args.specs.Arguments.{files_in}
use Rattle.wat_tokens_args.proofs.ArgumentLaws.{args_nil}
use Rattle.wat_tokens_args.proofs.arguments.next_file.Goals as goal

pub returns : goal.returns
returns c = sym c.loop-argument.invariant ∙ ap files_in (args_nil c.loop-argument.rest.now c.in_default.ensures)
