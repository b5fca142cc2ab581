use Rattle.std.proofs.Common.{arith}
use Rattle.wat_tokens_args.specs.Arguments.{args_of}
use Rattle.wat_tokens_args.proofs.ArgumentLaws.{times_append, times_le}
use Rattle.wat_tokens_args.proofs.options.Line.times.Goals as goal

pub overflow_add-result : goal.overflow_add-result
overflow_add-result c =
    omega (arith, c.times.ensures, c.times-2.ensures, times_le c.args.kind c.args.self.now.front.now, times_le c.args.kind c.args.self.now.args.now, c.iter.ensures.bound, c.iter-2.ensures.bound)

pub returns : goal.returns
returns c = omega (arith, c.times.ensures, c.times-2.ensures, times_append c.args.kind (args_of c.args.self.now.front.now) (args_of c.args.self.now.args.now))
