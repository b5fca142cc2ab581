use Rattle.std.proofs.Common.{◌≡◌, ◌++◌, length, map}
use Rattle.wat_module_parser.specs.Places.{variable_names}
use Rattle.wat_module_tokens.specs.TokenCursor.{terminals_of}
use Rattle.wat_module_parser.proofs.places.variable_names.Given as goal

abbrev pub invariant-loop-token : goal.invariant-loop-token
invariant-loop-token l = variable_names (terminals_of l.cursor) ≡ map terminals_of l.at.items ++ variable_names (terminals_of l.left)

abbrev pub decreases-loop-token : goal.decreases-loop-token
decreases-loop-token l = length (terminals_of l.left)
