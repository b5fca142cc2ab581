use Rattle.std.proofs.Common.{rules}
use Rattle.wat_floats.specs.Literals.{after}
use Rattle.wat_floats.proofs.literal.after.Goals as goal

pub returns : goal.returns
unfolding after
returns c = search rules
