use Rattle.std.proofs.Common.{◌≡◌, map, take}
use Rattle.std.specs.List.{flat_map}
use Rattle.wat_module_encoder.specs.Binary.{export_bytes}
use Rattle.wat_module_encoder.specs.Views.{export_of}
use Rattle.wat_module_encoder.proofs.exports.put_exports.Given as goal

abbrev pub invariant-loop-export : goal.invariant-loop-export
invariant-loop-export l = l.items.items ≡ flat_map export_bytes (map export_of (take l.export-index l.exports))
