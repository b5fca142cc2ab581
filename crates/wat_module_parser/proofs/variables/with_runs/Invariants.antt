use Rattle.std.proofs.Common.{◌≡◌, ◌+◌, ◌++◌, drop, length, map}
use Rattle.wat_module_ast.specs.Names.{associations}
use Rattle.wat_module_ast.specs.Views.{association_of}
use Rattle.wat_module_instructions.specs.Indices.{labels_of}
use Rattle.wat_module_parser.proofs.variables.with_runs.Given as goal

abbrev pub invariant-loop-run : goal.invariant-loop-run
invariant-loop-run l = record {
  are : map association_of l.initial.names.items ++ associations l.first (labels_of l.runs) ≡ map association_of l.names.items ++ associations l.index (labels_of (drop l.run-index l.runs));
  count : l.index + length (labels_of (drop l.run-index l.runs)) ≡ l.first + length (labels_of l.runs);
}
