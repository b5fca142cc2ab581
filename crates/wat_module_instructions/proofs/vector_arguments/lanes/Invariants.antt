use Rattle.std.proofs.Common.{◌≡◌}
use Rattle.wat_module_tokens.specs.TokenCursor.{terminals_of}
use Rattle.wat_module_ast.specs.Grammar.{before_bytes, lanes_from}
use Rattle.wat_module_instructions.proofs.vector_arguments.lanes.Given as goal

abbrev pub invariant-lanes : goal.invariant-lanes
invariant-lanes l = lanes_from l.lane l.initial.left.lanes (terminals_of l.initial.left.cursor) ≡ before_bytes l.bytes.items (lanes_from l.lane l.left.lanes (terminals_of l.left.cursor))

abbrev pub decreases-lanes : goal.decreases-lanes
decreases-lanes l = l.left.lanes
