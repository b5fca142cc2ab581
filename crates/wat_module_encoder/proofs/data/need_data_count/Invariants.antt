use Rattle.std.proofs.Common.{◌≡◌, map, drop}
use Rattle.std.specs.List.{list_any}
use Rattle.wat_module_encoder.specs.Binary.{needs_data_count}
use Rattle.wat_module_ast.specs.Views.{field_of}
use Rattle.wat_module_encoder.proofs.data.need_data_count.Given as goal

abbrev pub invariant-loop-field : goal.invariant-loop-field
invariant-loop-field l = list_any needs_data_count (map field_of l.fields) ≡ list_any needs_data_count (map field_of (drop l.field-index l.fields))
