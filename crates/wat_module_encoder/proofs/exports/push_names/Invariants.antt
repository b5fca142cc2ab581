use Rattle.std.proofs.Common.{◌≡◌, ◌++◌, map, take}
use Rattle.wat_module_encoder.specs.Binary.{export}
use Rattle.wat_module_ast.specs.Views.{text_of}
use Rattle.wat_module_encoder.specs.Views.{export_of}
use Rattle.wat_module_encoder.proofs.exports.push_names.Given as goal

abbrev pub invariant-loop-name : goal.invariant-loop-name
invariant-loop-name l = map export_of l.exports.items ≡ map export_of l.fn.exports.items ++ map (export l.space l.index) (map text_of (take l.name-index l.names))
