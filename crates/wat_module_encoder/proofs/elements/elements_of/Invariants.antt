use Rattle.std.proofs.Common.{◌≡◌, ◌++◌, suc, map, drop}
use Rattle.wat_module_ast.specs.Views.{field_of}
use Rattle.wat_module_encoder.specs.Views.{AreBelow, counts_of, elements_from, element_segment_of}
use Rattle.wat_module_encoder.proofs.Counting.{none}
use Rattle.wat_module_encoder.proofs.elements.elements_of.Given as goal

abbrev pub invariant-loop-field : goal.invariant-loop-field
invariant-loop-field l =
    (elements_from none (map field_of l.fields) ≡ map element_segment_of l.segments.items ++ elements_from (counts_of l.counts) (map field_of (drop l.field-index l.fields))) × AreBelow (counts_of l.counts) (suc l.field-index)
