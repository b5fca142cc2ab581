use Rattle.std.proofs.Common.{◌≡◌, ◌∙◌, ◌==◌, ap, arith, length}
use Rattle.wat_module_instructions.specs.Indices.{labels_of}
use Rattle.wat_module_parser.proofs.VariableLists as lists
use Rattle.wat_module_parser.proofs.variables.Variables.is_empty.Goals as goal

pub returns : goal.returns
returns c =
    let all = lists.count (labels_of c.self.inside.names.items) c.self.inside.types.items in
    let view = ap length c.self.view_is in
    let ok = c.self.inside.types.ok in
    let count : c.self.inside.types.len ≡ length c.args.self.now = omega (arith, all, view, ok) in
    c.is_empty.ensures ∙ ap (λ n. n == 0) count
