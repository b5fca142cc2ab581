use Rattle.std.proofs.Common.{◌∙◌, ◌-◌, arith}
use Rattle.wat_valid.proofs.Pops as pops
use Rattle.wat_valid.proofs.operands.pop_values.Goals as goal

pub returns-then-not-pop_value-clause-is : goal.returns-then-not-pop_value-clause-is
returns-then-not-pop_value-clause-is c =
    pops.pop_values_none c.args.operands.now.is_unreachable c.args.operands.now.types.items (c.loop-left.left - 1) c.args.expected.now
    (pops.pop_next c.loop-left.operands.is_unreachable c.args.operands.now.is_unreachable c.args.operands.now.types.items c.loop-left.operands.types.items c.args.expected.now c.loop-left.left _ _ c.loop-left.invariant.1 (omega arith) (omega arith) c.loop-left.invariant.2 c.if-not-pop_value.ensures.is)

pub loop-left-preserved : goal.loop-left-preserved
loop-left-preserved c = (
  omega arith,
  c.pop_value.ensures.same ∙ c.loop-left.invariant.1,
  pops.pop_next c.loop-left.operands.is_unreachable c.args.operands.now.is_unreachable c.args.operands.now.types.items c.loop-left.operands.types.items c.args.expected.now c.loop-left.left _ _ c.loop-left.invariant.1 (omega arith) (omega arith) c.loop-left.invariant.2 c.if-not-pop_value.ensures.is,
)
