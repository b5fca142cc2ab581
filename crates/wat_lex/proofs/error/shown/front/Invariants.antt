use Rattle.std.proofs.Common.{◌-◌, length}
use Rattle.wat_lex.proofs.errors.ShownBytes.{Walked}
use Rattle.wat_lex.proofs.error.shown.front.Given as goal

abbrev pub invariant-places : goal.invariant-places
invariant-places l = Walked l.line l.at l.missing l.bytes

abbrev pub decreases-places : goal.decreases-places
decreases-places l = length l.line - l.at
