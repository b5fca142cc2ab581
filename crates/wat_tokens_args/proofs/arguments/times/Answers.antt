use Rattle.std.proofs.Common.{arith, ap, sym, ◌∙◌}
use Rattle.wat_tokens_args.specs.Arguments.{times}
use Rattle.wat_tokens_args.proofs.ArgumentLaws.{args_nil, times_one, times_le}
use Rattle.wat_tokens_args.proofs.arguments.times.Goals as goal

pub overflow_add-count : goal.overflow_add-count
overflow_add-count c =
    omega (arith, c.loop-argument.invariant, times_one c.args.kind _ _ _ _ c.in-Some.ensures (sym c.is.ensures ∙ c.if-is.true), times_le c.args.kind c.args.words.now, c.iter.ensures.bound)

pub returns : goal.returns
returns c = omega (arith, c.loop-argument.invariant, ap (times c.args.kind) (args_nil c.loop-argument.rest.now c.in_default.ensures))
