use Rattle.wat_module_encoder.specs.Views.{counts_of, export_of}
use Rattle.std.proofs.Common.{map}
use Rattle.wat_module_encoder.proofs.Counting.{all_exports}
use Rattle.wat_module_encoder.proofs.exports.exports_of.Goals as goal

pub returns : goal.returns
returns c = all_exports c.args.fields.now (map export_of c.loop-field.exports.items) (counts_of c.loop-field.counts) c.loop-field.field-index c.loop-field.invariant.0 c.loop-field-test.false
