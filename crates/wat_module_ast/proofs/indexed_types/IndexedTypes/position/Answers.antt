use Rattle.std.proofs.Common.{◌∙◌, ap, map}
use Rattle.wat_module_ast.specs.TypeViews.{type_of}
use Rattle.wat_module_ast.specs.Indices.{found_type}
use Rattle.wat_module_ast.proofs.TypeKeys.{found_by}
use Rattle.wat_module_ast.proofs.indexed_types.IndexedTypes.position.Goals as goal

pub returns : goal.returns
returns c =
    let of = type_of c.args.of.now in
    c.copied.ensures ∙ c.get.ensures.value ∙ found_by c.self.inside.indices (map type_of c.self.inside.types.items) of c.in_ok-key.key.items c.self.invariant c.in_ok-key.ensures ∙ ap (found_type of) c.self.view_is
