use Rattle.std.proofs.Common.{◌≡◌, ◌+◌, ◌≤◌, false, length}
use Rattle.wat_module_ast.specs.Names.{inside}
use Rattle.wat_module_parser.specs.Labels.{begins_block, is_labelled}
use Rattle.wat_module_tokens.specs.TokenCursor.{terminals_of}
use Rattle.wat_module_parser.proofs.labels.has_label.Given as goal

abbrev pub invariant-loop-step : goal.invariant-loop-step
invariant-loop-step l = record {
  are : is_labelled false (inside 0 (terminals_of l.body)) ≡ is_labelled (begins_block (terminals_of l.previous)) (inside l.depth (terminals_of l.left));
  few : length (terminals_of l.left) + l.step ≤ length (terminals_of l.body);
  depth : l.depth ≤ l.step;
}
