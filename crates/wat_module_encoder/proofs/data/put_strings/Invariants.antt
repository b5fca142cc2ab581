use Rattle.std.proofs.Common.{◌≡◌, ◌++◌, take}
use Rattle.wat_module_ast.specs.Views.{together}
use Rattle.wat_module_encoder.proofs.data.put_strings.Given as goal

abbrev pub invariant-loop-string : goal.invariant-loop-string
invariant-loop-string l = l.out.items ≡ l.initial.out.items ++ together (take l.string-index l.strings)
