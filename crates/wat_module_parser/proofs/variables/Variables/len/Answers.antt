use Rattle.std.proofs.Common.{ap, arith, length}
use Rattle.wat_module_instructions.specs.Indices.{labels_of}
use Rattle.wat_module_parser.proofs.VariableLists as lists
use Rattle.wat_module_parser.proofs.variables.Variables.len.Goals as goal

pub returns-clause-count : goal.returns-clause-count
returns-clause-count c =
    let all = lists.count (labels_of c.self.inside.names.items) c.self.inside.types.items in
    let view = ap length c.self.view_is in
    let ok = c.self.inside.types.ok in
    let is = c.len.ensures in
    omega (arith, all, view, ok, is)

pub returns-clause-small : goal.returns-clause-small
returns-clause-small c =
    let all = lists.count (labels_of c.self.inside.names.items) c.self.inside.types.items in
    let view = ap length c.self.view_is in
    let ok = c.self.inside.types.ok in
    let small = c.self.inside.types.small in
    omega (arith, all, view, ok, small)
