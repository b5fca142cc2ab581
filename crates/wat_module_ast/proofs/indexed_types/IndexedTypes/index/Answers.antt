use Rattle.std.proofs.Common.{◌∙◌, arith}
use Rattle.wat_module_ast.specs.TypeViews.{type_of}
use Rattle.wat_module_ast.proofs.TypeKeys.{index_below, index_by}
use Rattle.wat_module_ast.proofs.indexed_types.IndexedTypes.index.Goals as goal

pub returns-clause-is : goal.returns-clause-is
returns-clause-is c = c.unwrap_or.ensures ∙ index_by c.in_ok-position.position c.self.inside.types.items c.args.self.now (type_of c.args.of.now) c.len.result c.self.view_is c.in_ok-position.ensures (c.len.ensures ∙ c.self.inside.types.ok.0)

pub returns-clause-small : goal.returns-clause-small
returns-clause-small c =
    let is = c.unwrap_or.ensures ∙ index_by c.in_ok-position.position c.self.inside.types.items c.args.self.now (type_of c.args.of.now) c.len.result c.self.view_is c.in_ok-position.ensures (c.len.ensures ∙ c.self.inside.types.ok.0) in
    let below = index_below (type_of c.args.of.now) c.self.inside.types.items c.args.self.now c.self.view_is in
    omega (arith, is, below, c.self.inside.types.ok, c.self.inside.types.small)
