use Rattle.std.proofs.Common.{map, take, true}
use Rattle.wat_module_ast.specs.Views.{text_of}
use Rattle.wat_valid.specs.ExportNames.{Adds}
use Rattle.wat_valid.specs.Modules.{names_of}
use Rattle.wat_valid.proofs.module.add_names.Given as goal

abbrev pub invariant-loop-name : goal.invariant-loop-name
invariant-loop-name l = Adds l.fn.names l.names (names_of (map text_of (take l.name-index l.exports))) true
