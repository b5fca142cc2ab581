use Rattle.std.proofs.Common.{ap}
use Rattle.wat_module_instructions.specs.Stack.{stack}
use Rattle.wat_module_instructions.proofs.Named.{none_open}
use Rattle.wat_module_instructions.proofs.frame.Frames.new.Goals as goal

pub invariant_of-result : goal.invariant_of-result
invariant_of-result c = none_open c.new.result.items c.none.result c.new.ensures.items c.none.ensures

pub returns : goal.returns
unfolding stack
returns c = ap stack c.new.ensures.items
