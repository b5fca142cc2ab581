use Rattle.std.proofs.Common.{length}
use Rattle.wat_module_tokens.specs.TokenCursor.{terminals_of}
use Rattle.wat_module_parser.proofs.Listing.{Listing}
use Rattle.wat_module_parser.proofs.header.values.Given as goal

abbrev pub invariant-values : goal.invariant-values
invariant-values l = Listing l.initial.found l.found (terminals_of l.initial.left) (terminals_of l.left)

abbrev pub decreases-values : goal.decreases-values
decreases-values l = length (terminals_of l.left)
