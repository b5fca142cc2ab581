use Rattle.wat_module_encoder.specs.Views.{counts_of, element_segment_of}
use Rattle.std.proofs.Common.{map}
use Rattle.wat_module_encoder.proofs.Counting.{all_elements}
use Rattle.wat_module_encoder.proofs.elements.elements_of.Goals as goal

pub returns : goal.returns
returns c = all_elements c.args.fields.now (map element_segment_of c.loop-field.segments.items) (counts_of c.loop-field.counts) c.loop-field.field-index c.loop-field.invariant.0 c.loop-field-test.false
