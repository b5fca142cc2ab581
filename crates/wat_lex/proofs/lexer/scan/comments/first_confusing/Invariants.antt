use Rattle.std.proofs.Common.{◌-◌, length}
use Rattle.wat_lex.proofs.inside.Confusing.{Searched}
use Rattle.wat_lex.proofs.lexer.scan.comments.first_confusing.Given as goal

abbrev pub invariant-places : goal.invariant-places
invariant-places l = Searched l.text l.at

abbrev pub decreases-places : goal.decreases-places
decreases-places l = length l.text - l.at
