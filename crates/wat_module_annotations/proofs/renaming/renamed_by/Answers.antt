use Rattle.std.proofs.Common.{◌≡◌, ◌∙◌, ◌+◌, ◌∷◌, ◌++◌, [], sym, ap, arith, length, map, drop}
use Rattle.std.specs.Vec.Iter.{into_iter_items}
use Rattle.wat_module_ast.specs.TypeViews.{type_of}
use Rattle.wat_module_ast.specs.Views.{field_of}
use Rattle.wat_module_annotations.specs.Renaming.{renamed_by}
use Rattle.wat_module_annotations.specs.Values.{field_names_of}
use Rattle.wat_module_annotations.proofs.Renamed.{no_field, one_field}
use Rattle.wat_module_annotations.proofs.Steps.{map_push, nothing_left}
use Rattle.wat_module_annotations.proofs.renaming.renamed_by.Goals as goal

pub loop-field-preserved : goal.loop-field-preserved
loop-field-preserved c =
    let at = c.loop-field in
    let types = map type_of c.args.types.now in
    let names = map field_names_of c.args.names.now in
    let whole = renamed_by types names (map field_of c.args.fields.items) in
    let done = map field_of at.renamed.items in
    let steps : into_iter_items at.field-iterator ≡ c.in-Some.field ∷ into_iter_items c.next.new.self = c.in-Some.ensures.steps.0 in
    let short = ap length steps in
    let gone = c.in-Some.ensures.steps.1 in
    let was = at.invariant.2 in
    let few = at.invariant.1 in
    let one = one_field whole done types names at.index (field_of c.in-Some.field) _ _ at.invariant.0 (ap (map field_of) steps) in
    let pushed = ap (map field_of) c.in_ok-push.ensures.items ∙ map_push field_of at.renamed.items c.in_ok-renamed_at.field-0 ∙ ap (λ f. done ++ (f ∷ [])) c.in_ok-renamed_at.ensures in (
      one ∙ ap (λ fs. fs ++ renamed_by types (drop (at.index + 1) names) (map field_of (into_iter_items c.next.new.self))) (sym pushed),
      omega (arith, few, short),
      omega (arith, was, gone, short),
    )

pub returns : goal.returns
returns c =
    let at = c.loop-field in
    let types = map type_of c.args.types.now in
    let names = map field_names_of c.args.names.now in
    let none = c.in-None.ensures.steps in
    let empty = ap (map field_of) (nothing_left (into_iter_items at.field-iterator) (sym at.invariant.2 ∙ none.0)) in
    sym (no_field (renamed_by types names (map field_of c.args.fields.items)) (map field_of at.renamed.items) types (drop at.index names) _ at.invariant.0 empty)
