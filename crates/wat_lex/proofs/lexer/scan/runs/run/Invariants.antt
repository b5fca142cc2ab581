use Rattle.std.proofs.Common.{◌-◌, length}
use Rattle.wat_lex.proofs.inside.RunSteps.{Joined}
use Rattle.wat_lex.proofs.lexer.scan.runs.run.Given as goal

abbrev pub invariant-loop-len : goal.invariant-loop-len
invariant-loop-len l = Joined l.flags l.text l.len l.idchars l.strings

abbrev pub decreases-loop-len : goal.decreases-loop-len
decreases-loop-len l = length l.text - l.len
