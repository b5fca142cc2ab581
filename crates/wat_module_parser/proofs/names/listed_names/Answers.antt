use Rattle.std.proofs.Common.{◌≡◌, ◌∙◌, ◌++◌, [], ap, arith, length, length-append, map}
use Rattle.std.proofs.lemmas.List.{length-map}
use Rattle.wat_module_ast.specs.Fields.{name_of}
use Rattle.wat_module_instructions.specs.Indices.{labels_of}
use Rattle.wat_module_parser.proofs.names.listed_names.Goals as goal

pub from_runs-requires : goal.from_runs-requires
from_runs-requires c =
    let params = c.args.params.now in
    let locals = c.args.locals.now in
    let start : labels_of c.new-names.result.items ≡ [] = ap labels_of c.new-names.ensures.items in
    let are : labels_of c.append_names-2.new.names.items ≡ ([] ++ map name_of params) ++ map name_of locals =
    c.in_ok-append_names-2.ensures.names ∙ ap (λ ls. ls ++ map name_of locals) (c.in_ok-append_names.ensures.names ∙ ap (λ ls. ls ++ map name_of params) start) in
    let all = ap length are ∙ length-append (map name_of params) (map name_of locals) in
    let first = length-map params name_of in
    let second = length-map locals name_of in
    let first_small = c.append_names.ensures.small in
    let second_small = c.append_names-2.ensures.small in
    omega (arith, all, first, second, first_small, second_small)
