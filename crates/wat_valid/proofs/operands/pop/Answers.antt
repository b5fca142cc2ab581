use Rattle.wat_valid.proofs.Pops as pops
use Rattle.wat_valid.proofs.operands.pop.Goals as goal

pub returns-in-Some-clause-is : goal.returns-in-Some-clause-is
returns-in-Some-clause-is c = pops.pop_some c.args.operands.now.is_unreachable c.args.operands.now.types.items c.pop.new.self.items c.in-Some.of c.in-Some.ensures.items
