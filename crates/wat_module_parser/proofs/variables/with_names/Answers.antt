use Rattle.std.proofs.Common.{◌≡◌, ◌∙◌, ◌+◌, ◌-◌, ◌++◌, ap, arith, length, map, subst, sym, IfOk}
use Rattle.wat_module_ast.specs.Fields.{name_of}
use Rattle.wat_module_ast.specs.Names.{associations}
use Rattle.wat_module_ast.specs.Views.{association_of}
use Rattle.wat_module_instructions.specs.Indices.{labels_of}
use Rattle.wat_module_parser.proofs.VariableLists as lists
use Rattle.wat_module_parser.proofs.variables.with_names.Goals as goal

pub returns : goal.returns
returns c =
    let runs = c.variables.inside.names.items in
    let types = c.variables.inside.types.items in
    let few = c.variables.invariant in
    let n = length types - length (labels_of runs) in
    let count : length (labels_of runs) + n ≡ length types = omega (arith, few.0, few.1) in
    subst (λ rest. IfOk c.with_runs.result (λ all. map association_of all.items ≡ map association_of c.args.names.items ++ rest))
    (ap (λ xs. associations c.args.first (labels_of xs)) c.deref.ensures.value
    ∙ sym (lists.associations_nones (labels_of runs) n c.args.first)
    ∙ ap (associations c.args.first) (sym (lists.names (labels_of runs) n types count) ∙ ap (map name_of) c.variables.view_is))
    c.with_runs.ensures
