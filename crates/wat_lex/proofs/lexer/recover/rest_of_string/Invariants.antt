use Rattle.std.proofs.Common.{◌-◌, length}
use Rattle.wat_lex.proofs.inside.Recoveries.{Passing}
use Rattle.wat_lex.proofs.lexer.recover.rest_of_string.Given as goal

abbrev pub invariant-inside : goal.invariant-inside
invariant-inside l = Passing l.text l.at

abbrev pub decreases-inside : goal.decreases-inside
decreases-inside l = length l.text - l.at
