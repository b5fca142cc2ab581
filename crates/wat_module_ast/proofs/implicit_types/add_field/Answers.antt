use Rattle.std.proofs.Common.{◌∙◌, ap, sym}
use Rattle.std.specs.List.{flat_map}
use Rattle.wat_module_ast.specs.ImplicitTypes.{mode_types, types_after, field_types}
use Rattle.wat_module_ast.specs.Uses.{expression_types}
use Rattle.wat_module_ast.specs.Views.{field_of, expressions_of, mode_of}
use Rattle.wat_module_ast.proofs.FunctionTypes.{after_more}
use Rattle.wat_module_ast.proofs.implicit_types.add_field.Goals as goal

pub returns-in_ok-add_elements-in-Elem : goal.returns-in_ok-add_elements-in-Elem
returns-in_ok-add_elements-in-Elem c =
    let elem = c.in-Elem.elem in
    let uses = mode_types (mode_of elem.mode) in
    let elements = flat_map expression_types (expressions_of elem.elements) in
    c.in_ok-add_elements-in-Elem.ensures
    ∙ ap (λ x. types_after x elements) c.in_ok-add_mode-in-Elem.ensures
    ∙ sym (after_more c.args.types.now uses elements) ∙ ap (λ f. types_after c.args.types.now (field_types (field_of f))) (sym c.in-Elem.is)
