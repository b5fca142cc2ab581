use Rattle.std.proofs.Common.{◌≡◌, ◌-◌, ◌^◌, length, map, min, take}
use Rattle.std.specs.List.{flat_map}
use Rattle.wat_module_encoder.specs.Binary.{data_bytes}
use Rattle.wat_module_encoder.specs.Views.{segment_of}
use Rattle.wat_module_encoder.proofs.data.segments_len.Given as goal

abbrev pub invariant-loop-segment : goal.invariant-loop-segment
invariant-loop-segment l = l.all ≡ min (length (flat_map (data_bytes l.types) (map segment_of (take l.segment-index l.segments)))) (2 ^ 64 - 1)
