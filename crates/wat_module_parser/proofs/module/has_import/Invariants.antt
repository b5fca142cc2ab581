use Rattle.std.proofs.Common.{◌≡◌, map, drop}
use Rattle.wat_module_ast.specs.Fields.{has_import}
use Rattle.wat_module_ast.specs.Views.{field_of}
use Rattle.wat_module_parser.proofs.module.has_import.Given as goal

abbrev pub invariant-loop-field : goal.invariant-loop-field
invariant-loop-field l = has_import (map field_of l.fields) ≡ has_import (map field_of (drop l.field-index l.fields))
