use Rattle.std.proofs.Common.{◌≡◌, map, take}
use Rattle.std.specs.List.{flat_map}
use Rattle.wat_module_encoder.specs.Binary.{elem_bytes}
use Rattle.wat_module_encoder.specs.Views.{element_segment_of}
use Rattle.wat_module_encoder.proofs.elements.put_elements.Given as goal

abbrev pub invariant-loop-segment : goal.invariant-loop-segment
invariant-loop-segment l = l.items.items ≡ flat_map (elem_bytes l.types) (map element_segment_of (take l.segment-index l.segments))
