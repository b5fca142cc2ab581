use Rattle.std.proofs.Common.{◌≡◌, ◌+◌, ◌≤◌, ◌++◌, length, map, drop}
use Rattle.std.specs.List.{flat_map}
use Rattle.wat_module_ast.specs.Views.{field_of}
use Rattle.wat_module_ast.specs.Names.{associations}
use Rattle.wat_module_encoder.specs.NameSection.{association_bytes}
use Rattle.wat_module_encoder.specs.Views.{labels_in}
use Rattle.wat_module_encoder.proofs.names.put_map.Given as goal

abbrev pub invariant-loop-field : goal.invariant-loop-field
invariant-loop-field l =
    (flat_map association_bytes (associations 0 (flat_map (labels_in l.space) (map field_of l.fields))) ≡ l.items.items ++ flat_map association_bytes (associations l.index (flat_map (labels_in l.space) (map field_of (drop l.field-index l.fields)))))
    × (length (associations 0 (flat_map (labels_in l.space) (map field_of l.fields))) ≡ l.count + length (associations l.index (flat_map (labels_in l.space) (map field_of (drop l.field-index l.fields)))))
    × (l.count ≤ l.field-index) × (l.index ≤ l.field-index)
