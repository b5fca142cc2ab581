use Rattle.std.proofs.Common.{◌≡◌, ◌++◌, map, drop}
use Rattle.wat_module_ast.specs.Fields.{definition_type, definitions_of}
use Rattle.wat_module_ast.specs.Views.{field_of}
use Rattle.wat_module_ast.proofs.implicit_types.defined_types.Given as goal

abbrev pub invariant-loop-field : goal.invariant-loop-field
invariant-loop-field l = map definition_type (definitions_of (map field_of l.fields)) ≡ l.types ++ map definition_type (definitions_of (map field_of (drop l.field-index l.fields)))
