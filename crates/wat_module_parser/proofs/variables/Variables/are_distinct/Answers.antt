use Rattle.std.proofs.Common.{◌≡◌, ◌∙◌, ◌+◌, ◌-◌, ap, arith, length, map, subst, sym, IfOk}
use Rattle.wat_module_ast.specs.Fields.{name_of}
use Rattle.wat_module_ast.specs.Names.{are_distinct}
use Rattle.wat_module_instructions.specs.Indices.{labels_of}
use Rattle.wat_module_parser.proofs.VariableLists as lists
use Rattle.wat_module_parser.proofs.variables.Variables.are_distinct.Goals as goal

pub returns : goal.returns
returns c =
    let runs = c.self.inside.names.items in
    let types = c.self.inside.types.items in
    let few = c.self.invariant in
    let n = length types - length (labels_of runs) in
    let count : length (labels_of runs) + n ≡ length types = omega (arith, few.0, few.1) in
    subst (λ x. IfOk c.have_distinct_names.result (λ b. b ≡ x))
    (ap (λ xs. are_distinct (labels_of xs)) c.deref.ensures.value
    ∙ sym (lists.distinct_nones (labels_of runs) n)
    ∙ ap are_distinct (sym (lists.names (labels_of runs) n types count) ∙ ap (map name_of) c.self.view_is))
    c.have_distinct_names.ensures
