use Rattle.std.proofs.Common.{◌≡◌, [], length, map}
use Rattle.wat_module_parser.specs.Reading.{starts, Before}
use Rattle.wat_module_tokens.specs.TokenCursor.{terminals_of}
use Rattle.wat_module_parser.proofs.names.starts.Given as goal

abbrev pub invariant-loop-inside : goal.invariant-loop-inside
invariant-loop-inside l = starts Before [] (terminals_of l.cursor) ≡ starts Before (map terminals_of l.starts.items) (terminals_of l.left)

abbrev pub decreases-loop-inside : goal.decreases-loop-inside
decreases-loop-inside l = length (terminals_of l.left)
