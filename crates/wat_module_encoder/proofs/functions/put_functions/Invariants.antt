use Rattle.std.proofs.Common.{◌≡◌, ◌+◌, ◌≤◌, ◌++◌, length, map, drop}
use Rattle.std.specs.List.{flat_map}
use Rattle.wat_module_encoder.specs.Binary.{function_bytes, function_of}
use Rattle.wat_module_ast.specs.Views.{field_of}
use Rattle.wat_module_encoder.proofs.functions.put_functions.Given as goal

abbrev pub invariant-loop-field : goal.invariant-loop-field
invariant-loop-field l =
    (flat_map (function_bytes l.types) (flat_map function_of (map field_of l.fields)) ≡ l.items.items ++ flat_map (function_bytes l.types) (flat_map function_of (map field_of (drop l.field-index l.fields))))
    × (length (flat_map function_of (map field_of l.fields)) ≡ l.count + length (flat_map function_of (map field_of (drop l.field-index l.fields)))) × (l.count ≤ l.field-index)
