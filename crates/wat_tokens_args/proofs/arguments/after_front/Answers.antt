use Rattle.std.proofs.Common.{sym, ◌∙◌}
use Rattle.wat_tokens_args.proofs.ArgumentLaws.{front_nil}
use Rattle.wat_tokens_args.proofs.arguments.after_front.Goals as goal

pub returns-in_default : goal.returns-in_default
returns-in_default c = record { rest = sym (front_nil c.loop-argument.rest.now c.in_default.ensures) ∙ c.loop-argument.invariant.rest; shorter = c.loop-argument.invariant.shorter }
