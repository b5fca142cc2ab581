use Rattle.std.proofs.Common.{◌+◌, ◌-◌, ◌/◌, ◌^◌, ap, ◌∙◌, arith}
use lib.Pow.{shr-shr}
use Rattle.wat_floats.proofs.rounding.without_lowest.Goals as goal

pub returns : goal.returns
returns c = shr-shr c.args.count (c.args.dropped - 1) 1 ∙ ap (λ k. c.args.count / 2 ^ k) {x = c.args.dropped - 1 + 1} {y = c.args.dropped} (omega arith)
