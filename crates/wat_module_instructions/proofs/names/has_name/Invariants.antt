use Rattle.std.proofs.Common.{◌≡◌, drop}
use Rattle.wat_module_ast.specs.Names.{has_name}
use Rattle.wat_module_instructions.specs.Indices.{labels_of}
use Rattle.wat_module_instructions.proofs.names.has_name.Given as goal

abbrev pub invariant-loop-run : goal.invariant-loop-run
invariant-loop-run l = has_name l.name (labels_of l.names) ≡ has_name l.name (labels_of (drop l.run-index l.names))
