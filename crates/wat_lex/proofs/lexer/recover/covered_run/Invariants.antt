use Rattle.std.proofs.Common.{◌-◌, ℕ, length}
use Rattle.wat_lex.proofs.inside.RunSteps.{Joined}
use Rattle.wat_lex.proofs.lexer.recover.covered_run.Given as goal

abbrev pub invariant-loop-len : goal.invariant-loop-len
invariant-loop-len l = (idchars : ℕ) × (strings : ℕ) × Joined l.flags l.text l.len idchars strings

abbrev pub decreases-loop-len : goal.decreases-loop-len
decreases-loop-len l = length l.text - l.len
