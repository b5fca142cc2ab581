use Rattle.std.proofs.Common.{sym, ◌∙◌}
use Rattle.wat_tokens_args.proofs.LineLaws.{take_none}
use Rattle.wat_tokens_args.proofs.options.accepts_all.Goals as goal

pub returns : goal.returns
returns c = sym (take_none c.args.verb c.loop-argument.rest.now c.in_default.ensures) ∙ c.loop-argument.invariant
