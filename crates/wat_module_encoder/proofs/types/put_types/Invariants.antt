use Rattle.std.proofs.Common.{◌≡◌, map, take}
use Rattle.std.specs.List.{flat_map}
use Rattle.wat_module_encoder.specs.Binary.{type_bytes}
use Rattle.wat_module_ast.specs.TypeViews.{type_of}
use Rattle.wat_module_encoder.proofs.types.put_types.Given as goal

abbrev pub invariant-loop-of : goal.invariant-loop-of
invariant-loop-of l = l.items.items ≡ flat_map type_bytes (map type_of (take l.of-index l.types))
