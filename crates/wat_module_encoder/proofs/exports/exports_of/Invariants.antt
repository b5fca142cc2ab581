use Rattle.std.proofs.Common.{◌≡◌, ◌++◌, suc, map, drop}
use Rattle.wat_module_ast.specs.Views.{field_of}
use Rattle.wat_module_encoder.specs.Views.{AreBelow, counts_of, exports_from, export_of}
use Rattle.wat_module_encoder.proofs.Counting.{none}
use Rattle.wat_module_encoder.proofs.exports.exports_of.Given as goal

abbrev pub invariant-loop-field : goal.invariant-loop-field
invariant-loop-field l =
    (exports_from none (map field_of l.fields) ≡ map export_of l.exports.items ++ exports_from (counts_of l.counts) (map field_of (drop l.field-index l.fields))) × AreBelow (counts_of l.counts) (suc l.field-index)
