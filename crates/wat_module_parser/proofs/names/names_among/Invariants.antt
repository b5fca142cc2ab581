use Rattle.std.proofs.Common.{◌≡◌, ◌++◌, map, drop}
use Rattle.wat_module_ast.specs.Fields.{names_in}
use Rattle.wat_module_tokens.specs.Terminals.{label}
use Rattle.wat_module_parser.specs.Views.{binding_of}
use Rattle.wat_module_parser.proofs.names.names_among.Given as goal

abbrev pub invariant-loop-binding : goal.invariant-loop-binding
invariant-loop-binding l = names_in l.space (map binding_of l.bindings) ≡ map label l.names.items ++ names_in l.space (map binding_of (drop l.binding-index l.bindings))
