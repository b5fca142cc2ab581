use Rattle.std.proofs.Common.{◌∙◌, ◌∷◌, ◌++◌, [], ap, arith}
use Rattle.wat_module_ast.specs.Fields.{unnamed}
use Rattle.wat_module_instructions.specs.Indices.{labels_of}
use Rattle.wat_module_parser.specs.NamedTypes.{variables_of}
use Rattle.wat_module_parser.proofs.VariableLists as lists
use Rattle.wat_module_parser.proofs.variables.Variables.push.Goals as goal

pub returns : goal.returns
returns c =
    let labels = labels_of c.self.inside.names.items in
    let types = c.self.inside.types.items in
    ap (variables_of labels) c.in_ok-push.ensures.items
    ∙ lists.push labels types c.args.of (let few = c.self.invariant in omega (arith, few.0, few.1))
    ∙ ap (λ vs. vs ++ unnamed c.args.of ∷ []) c.self.view_is
