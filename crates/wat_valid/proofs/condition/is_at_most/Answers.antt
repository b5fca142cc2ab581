use Rattle.std.proofs.Common.{arith}
use Rattle.wat_valid.proofs.Powers.{too_large}
use Rattle.wat_valid.proofs.condition.is_at_most.Goals as goal

pub returns-else-align-lt8 : goal.returns-else-align-lt8
returns-else-align-lt8 c = too_large c.args.align c.args.width (omega arith) (omega arith)
