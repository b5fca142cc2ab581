use Rattle.std.proofs.Common.{◌≡◌, ◌∙◌, ◌+◌, ◌-◌, ◌++◌, append_assoc, ap, arith, length, map, None, replicate, subst, sym, IfOk}
use Rattle.std.proofs.lemmas.Grind.{flat_map-append}
use Rattle.wat_module_ast.specs.Fields.{name_of}
use Rattle.wat_module_instructions.specs.Indices.{labels_of, run_labels}
use Rattle.wat_module_parser.proofs.VariableLists as lists
use Rattle.wat_module_parser.proofs.variables.Variables.append_names.Goals as goal

pub returns-clause-names : goal.returns-clause-names
returns-clause-names c =
    let old = c.args.names.now.items in
    let runs = c.self.inside.names.items in
    let types = c.self.inside.types.items in
    let n = c.len.result - c.self.inside.named in
    let few = c.self.invariant in
    let ok = c.self.inside.types.ok in
    let is = c.len.ensures in
    let count : length (labels_of runs) + n ≡ length types = omega (arith, few.0, few.1, ok, is) in
    subst (λ ls. IfOk c.push_unnamed.result (λ x. labels_of c.push_unnamed.new.names.items ≡ ls))
    (ap (λ xs. labels_of xs ++ replicate n None) (c.in_ok-extend_from_slice.ensures.items ∙ ap (λ ys. old ++ ys) c.deref.ensures.value)
    ∙ ap (λ ls. ls ++ replicate n None) (flat_map-append run_labels old runs)
    ∙ append_assoc (labels_of old) (labels_of runs) (replicate n None)
    ∙ ap (λ ls. labels_of old ++ ls) (sym (lists.names (labels_of runs) n types count) ∙ ap (map name_of) c.self.view_is))
    c.push_unnamed.ensures.appended

pub returns-clause-small : goal.returns-clause-small
returns-clause-small c =
    let all = lists.count (labels_of c.self.inside.names.items) c.self.inside.types.items in
    let view = ap length c.self.view_is in
    let ok = c.self.inside.types.ok in
    let small = c.self.inside.types.small in
    omega (arith, all, view, ok, small)

pub returns-in_err-extend_from_slice-clause-small : goal.returns-in_err-extend_from_slice-clause-small
returns-in_err-extend_from_slice-clause-small c =
    let all = lists.count (labels_of c.self.inside.names.items) c.self.inside.types.items in
    let view = ap length c.self.view_is in
    let ok = c.self.inside.types.ok in
    let small = c.self.inside.types.small in
    omega (arith, all, view, ok, small)
