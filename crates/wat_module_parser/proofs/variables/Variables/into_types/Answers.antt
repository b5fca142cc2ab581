use Rattle.std.proofs.Common.{◌∙◌, ap, map, sym}
use Rattle.wat_module_ast.specs.Fields.{type_of}
use Rattle.wat_module_instructions.specs.Indices.{labels_of}
use Rattle.wat_module_parser.proofs.VariableLists as lists
use Rattle.wat_module_parser.proofs.variables.Variables.into_types.Goals as goal

pub returns : goal.returns
returns c = sym (lists.types (labels_of c.self.inside.names.items) c.self.inside.types.items) ∙ ap (map type_of) c.self.view_is
