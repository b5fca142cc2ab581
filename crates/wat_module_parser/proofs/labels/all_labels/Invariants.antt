use Rattle.std.proofs.Common.{◌≡◌, ◌+◌, ◌≤◌, length}
use Rattle.wat_module_ast.specs.Fields.{label_associations}
use Rattle.wat_module_ast.specs.Names.{block_labels, inside}
use Rattle.wat_module_parser.specs.Labels.{found}
use Rattle.wat_module_tokens.specs.TokenCursor.{terminals_of}
use Rattle.wat_module_parser.proofs.labels.all_labels.Given as goal

abbrev pub invariant-loop-step : goal.invariant-loop-step
invariant-loop-step l = record {
  are : label_associations (terminals_of l.body) ≡ found l.labels (block_labels l.waiting (inside l.depth (terminals_of l.left)));
  few : length (terminals_of l.left) + l.step ≤ length (terminals_of l.body);
  count : l.labels.count ≤ l.step;
  depth : l.depth ≤ l.step;
}
