use Rattle.std.proofs.Common.{◌≡◌, ◌+◌, drop, length}
use Rattle.wat_module_ast.specs.Grammar.{position}
use Rattle.wat_module_instructions.specs.Indices.{labels_of}
use Rattle.wat_module_instructions.proofs.names.first.Given as goal

abbrev pub invariant-loop-run : goal.invariant-loop-run
invariant-loop-run l = record {
  found : position 0 l.name (labels_of l.names) ≡ position l.index l.name (labels_of (drop l.run-index l.names));
  count : l.index + length (labels_of (drop l.run-index l.names)) ≡ length (labels_of l.names);
}
