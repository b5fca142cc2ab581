use Rattle.std.proofs.Common.{◌≡◌, ◌<◌, ◌^◌, length, take}
use Rattle.wat_module_ast.specs.Views.{together}
use Rattle.wat_module_ast.proofs.fields.len_of.Given as goal

abbrev pub invariant-loop-string : goal.invariant-loop-string
invariant-loop-string l = (l.len ≡ length (together (take l.string-index l.strings))) × (l.len < 2 ^ 63)
