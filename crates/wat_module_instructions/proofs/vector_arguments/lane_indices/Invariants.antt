use Rattle.std.proofs.Common.{◌≡◌}
use Rattle.wat_module_tokens.specs.TokenCursor.{terminals_of}
use Rattle.wat_module_ast.specs.Grammar.{before_bytes, lane_indices}
use Rattle.wat_module_instructions.proofs.vector_arguments.lane_indices.Given as goal

abbrev pub invariant-indices : goal.invariant-indices
invariant-indices l = lane_indices 16 (terminals_of l.initial.left.cursor) ≡ before_bytes l.indices.items (lane_indices l.left.lanes (terminals_of l.left.cursor))

abbrev pub decreases-indices : goal.decreases-indices
decreases-indices l = l.left.lanes
