use Rattle.std.proofs.Common.{◌≡◌, ◌+◌, ◌≤◌, length, map, drop}
use Rattle.wat_module_ast.specs.Fields.{starts_of}
use Rattle.wat_module_ast.specs.Views.{field_of}
use Rattle.wat_module_parser.proofs.module.starts.Given as goal

abbrev pub invariant-loop-field : goal.invariant-loop-field
invariant-loop-field l = (length (starts_of (map field_of l.fields)) ≡ l.count + length (starts_of (map field_of (drop l.field-index l.fields)))) × (l.count ≤ l.field-index)
