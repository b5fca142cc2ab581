use Rattle.std.proofs.Common.{rules, ◌≡◌, ◌<◌, ◌∙◌, ◌++◌, [], ap, arith, is_some, length, length-append, map, None, replicate, refl, subst, IfOk, IfSome}
use Rattle.std.proofs.lemmas.List.{length-map, length-replicate}
use Rattle.wat_module_ast.specs.Fields.{name_of, unnamed}
use Rattle.wat_module_ast.specs.Names.{are_distinct}
use Rattle.wat_module_instructions.specs.Indices.{labels_of}
use Rattle.wat_module_tokens.specs.Terminals.{Label}
use Rattle.wat_module_parser.proofs.Unnamed.{names_after}
use Rattle.wat_module_parser.proofs.names.names_after.Goals as goal

pub from_runs-requires : goal.from_runs-requires
from_runs-requires c =
    let params = c.args.params.now in
    let locals = c.args.locals.now in
    let start : labels_of c.new-names.result.items ≡ [] = ap labels_of c.new-names.ensures.items in
    let are : labels_of c.append_names.new.names.items ≡ ([] ++ replicate (length params) None) ++ map name_of locals =
    c.in_ok-append_names.ensures.names ∙ ap (λ ls. ls ++ map name_of locals) (c.in_ok-push_unnamed.ensures.appended ∙ ap (λ ls. ls ++ replicate (length params) None) start) in
    let all = ap length are ∙ length-append (replicate (length params) None) (map name_of locals) in
    let first = length-replicate {A = Label} (length params) None in
    let second = length-map locals name_of in
    let second_small = c.append_names.ensures.small in
    let first_small : length params < 9223372036854775808 = search rules in
    omega (arith, all, first, second, first_small, second_small)

pub returns-clause-these : goal.returns-clause-these
returns-clause-these c =
    let params = c.args.params.now in
    let locals = c.args.locals.now in
    let start : labels_of c.new-names.result.items ≡ [] = ap labels_of c.new-names.ensures.items in
    let are : labels_of c.append_names.new.names.items ≡ map name_of (map unnamed params ++ locals) =
    c.in_ok-append_names.ensures.names ∙ ap (λ ls. ls ++ map name_of locals) (c.in_ok-push_unnamed.ensures.appended ∙ ap (λ ls. ls ++ replicate (length params) None) start)
    ∙ names_after params locals (map name_of locals) refl in
    subst (λ x. IfOk c.from_runs.result (λ found. IfSome found (λ names. names ≡ x))) are c.from_runs.ensures.these

pub returns-clause-distinct : goal.returns-clause-distinct
returns-clause-distinct c =
    let params = c.args.params.now in
    let locals = c.args.locals.now in
    let start : labels_of c.new-names.result.items ≡ [] = ap labels_of c.new-names.ensures.items in
    let are : labels_of c.append_names.new.names.items ≡ map name_of (map unnamed params ++ locals) =
    c.in_ok-append_names.ensures.names ∙ ap (λ ls. ls ++ map name_of locals) (c.in_ok-push_unnamed.ensures.appended ∙ ap (λ ls. ls ++ replicate (length params) None) start)
    ∙ names_after params locals (map name_of locals) refl in
    subst (λ x. IfOk c.from_runs.result (λ found. is_some found ≡ are_distinct x)) are c.from_runs.ensures.distinct
