use Rattle.wat_lex.proofs.errors.Digits.{Written}
use Rattle.wat_lex.proofs.error.pieces.digits.Given as goal

abbrev pub invariant-places : goal.invariant-places
invariant-places l = Written l.base l.fn.number l.at l.rest l.room

abbrev pub decreases-places : goal.decreases-places
decreases-places l = l.at
