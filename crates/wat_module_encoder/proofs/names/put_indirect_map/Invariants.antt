use Rattle.std.proofs.Common.{◌≡◌, ◌+◌, ◌≤◌, ◌++◌, length, map, drop}
use Rattle.std.specs.List.{flat_map}
use Rattle.wat_module_ast.specs.Views.{field_of}
use Rattle.wat_module_encoder.specs.NameSection.{indirect_associations, indirect_bytes}
use Rattle.wat_module_encoder.specs.Views.{maps_in}
use Rattle.wat_module_encoder.proofs.names.put_indirect_map.Given as goal

abbrev pub invariant-loop-field : goal.invariant-loop-field
invariant-loop-field l =
    (flat_map indirect_bytes (indirect_associations 0 (flat_map (maps_in l.which) (map field_of l.fields))) ≡ l.items.items ++ flat_map indirect_bytes (indirect_associations l.function (flat_map (maps_in l.which) (map field_of (drop l.field-index l.fields)))))
    × (length (indirect_associations 0 (flat_map (maps_in l.which) (map field_of l.fields))) ≡ l.count + length (indirect_associations l.function (flat_map (maps_in l.which) (map field_of (drop l.field-index l.fields)))))
    × (l.count ≤ l.field-index) × (l.function ≤ l.field-index)
