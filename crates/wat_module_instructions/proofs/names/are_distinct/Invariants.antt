use Rattle.std.proofs.Common.{◌≡◌, drop}
use Rattle.wat_module_ast.specs.Names.{are_distinct}
use Rattle.wat_module_instructions.specs.Indices.{labels_of}
use Rattle.wat_module_instructions.proofs.names.are_distinct.Given as goal

abbrev pub invariant-loop-i : goal.invariant-loop-i
invariant-loop-i l = are_distinct (labels_of l.names) ≡ are_distinct (labels_of (drop l.i l.names))
