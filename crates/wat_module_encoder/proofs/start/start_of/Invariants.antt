use Rattle.std.proofs.Common.{◌≡◌, map, drop}
use Rattle.wat_module_ast.specs.Fields.{starts_of}
use Rattle.wat_module_ast.specs.Views.{field_of}
use Rattle.wat_module_encoder.proofs.start.start_of.Given as goal

abbrev pub invariant-loop-field : goal.invariant-loop-field
invariant-loop-field l = starts_of (map field_of l.fields) ≡ starts_of (map field_of (drop l.field-index l.fields))
