use Rattle.std.proofs.Common.{◌≤◌, ◌<◌, length, arith}
use Rattle.wat_module_instructions.proofs.Heights.{closed_deep, closed_few, is_there}
use Rattle.wat_module_instructions.proofs.open_labels.Labels.pop.Goals as goal

pub restore-requires : goal.restore-requires
restore-requires c =
    let deep : 16 ≤ length c.pop.new.self.items = omega (arith, c.pop.new.self.ok.0, c.len.ensures, c.if-len-ge-FEW.true) in
    is_there c.self.inside.heights c.pop.new.self.items c.self.inside.open.items c.in-Some.label c.in-Some.ensures.items deep c.self.invariant

pub invariant_of-self : goal.invariant_of-self
invariant_of-self c =
    let deep : 16 ≤ length c.pop.new.self.items = omega (arith, c.pop.new.self.ok.0, c.len.ensures, c.if-len-ge-FEW.true) in
    closed_deep c.self.inside.heights c.restore.new.heights c.pop.new.self.items c.self.inside.open.items c.in-Some.label c.in-Some.ensures.items deep c.restore.ensures c.self.invariant

pub invariant_of-self-else-len-ge-FEW : goal.invariant_of-self-else-len-ge-FEW
invariant_of-self-else-len-ge-FEW c =
    let few : length c.pop.new.self.items < 16 = omega (arith, c.pop.new.self.ok.0, c.len.ensures, c.if-len-ge-FEW.false) in
    closed_few c.self.inside.heights c.pop.new.self.items c.self.inside.open.items c.in-Some.label c.in-Some.ensures.items few c.self.invariant
