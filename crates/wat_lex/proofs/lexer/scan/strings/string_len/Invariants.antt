use Rattle.std.proofs.Common.{◌-◌, length}
use Rattle.wat_lex.proofs.inside.StringElements.{Continues}
use Rattle.wat_lex.proofs.lexer.scan.strings.string_len.Given as goal

abbrev pub invariant-elements : goal.invariant-elements
invariant-elements l = Continues l.flags l.text l.at

abbrev pub decreases-elements : goal.decreases-elements
decreases-elements l = length l.text - l.at
