use Rattle.std.proofs.Common.{◌∙◌}
use Rattle.wat_valid.proofs.Branching.{pop_none, pop_rest}
use Rattle.wat_valid.proofs.blocks.pop_below_number.Goals as goal

pub returns-then-not-pop_value-clause-is : goal.returns-then-not-pop_value-clause-is
returns-then-not-pop_value-clause-is c = pop_none c.args.operands.now.is_unreachable c.args.operands.now.types.items c.args.params.now c.if-not-pop_value.ensures.is

pub returns-clause-is : goal.returns-clause-is
returns-clause-is c =
    pop_rest c.args.operands.now.is_unreachable c.pop_value.new.operands.is_unreachable c.args.operands.now.types.items c.pop_value.new.operands.types.items c.args.params.now c.pop_value.ensures.same c.if-not-pop_value.ensures.is ∙ c.pop_values.ensures.is
