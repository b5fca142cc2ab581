use Rattle.std.proofs.Common.{◌≡◌, map, drop}
use Rattle.wat_module_ast.specs.Fields.{imports_first}
use Rattle.wat_module_ast.specs.Views.{field_of}
use Rattle.wat_module_parser.proofs.module.imports_first.Given as goal

abbrev pub invariant-loop-i : goal.invariant-loop-i
invariant-loop-i l = imports_first (map field_of l.fields) ≡ imports_first (map field_of (drop l.i l.fields))
