use Rattle.std.proofs.Common.{◌≡◌, length, take, true}
use Rattle.wat_module_ast.specs.Names.{are_distinct}
use Rattle.wat_module_instructions.specs.Indices.{AreIndices, labels_of}
use Rattle.wat_module_instructions.proofs.names.indices.Given as goal

abbrev pub invariant-loop-run : goal.invariant-loop-run
invariant-loop-run l = record {
  are : AreIndices l.indices (labels_of (take l.run-index l.names));
  distinct : are_distinct (labels_of (take l.run-index l.names)) ≡ true;
  index : l.index ≡ length (labels_of (take l.run-index l.names));
}
