use Rattle.std.proofs.Common.{◌≡◌, ◌++◌, suc, map, drop}
use Rattle.wat_module_ast.specs.Views.{field_of}
use Rattle.wat_module_encoder.specs.Views.{AreBelow, counts_of, data_from, segment_of}
use Rattle.wat_module_encoder.proofs.Counting.{none}
use Rattle.wat_module_encoder.proofs.data.data_of.Given as goal

abbrev pub invariant-loop-field : goal.invariant-loop-field
invariant-loop-field l =
    (data_from none (map field_of l.fields) ≡ map segment_of l.segments.items ++ data_from (counts_of l.counts) (map field_of (drop l.field-index l.fields))) × AreBelow (counts_of l.counts) (suc l.field-index)
