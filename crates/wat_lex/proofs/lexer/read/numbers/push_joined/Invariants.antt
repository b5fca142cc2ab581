use Rattle.std.proofs.Common.{◌≡◌, ◌++◌, take}
use Rattle.std.specs.Prelude.{string_bytes}
use Rattle.wat_lex.specs.values.NumberValues.{joined}
use Rattle.wat_lex.proofs.lexer.read.numbers.push_joined.Given as goal

abbrev pub invariant-loop-b : goal.invariant-loop-b
invariant-loop-b l = string_bytes l.text ≡ string_bytes l.initial.text ++ joined (take l.b-index l.digits)
