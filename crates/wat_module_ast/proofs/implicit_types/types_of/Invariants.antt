use Rattle.std.proofs.Common.{◌≡◌, map, drop}
use Rattle.std.specs.List.{flat_map}
use Rattle.wat_module_ast.specs.ImplicitTypes.{types_after, field_types}
use Rattle.wat_module_ast.specs.Fields.{definition_type, definitions_of}
use Rattle.wat_module_ast.specs.Views.{field_of}
use Rattle.wat_module_ast.proofs.implicit_types.types_of.Given as goal

abbrev pub invariant-loop-field : goal.invariant-loop-field
invariant-loop-field l = types_after (map definition_type (definitions_of (map field_of l.fields))) (flat_map field_types (map field_of l.fields)) ≡ types_after l.types (flat_map field_types (map field_of (drop l.field-index l.fields)))
