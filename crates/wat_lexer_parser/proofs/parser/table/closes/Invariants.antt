use Rattle.std.proofs.Common.{◌-◌, length}
use Rattle.wat_lexer_parser.proofs.inside.Stacks.{Walking}
use Rattle.wat_lexer_parser.proofs.parser.table.closes.Given as goal

abbrev pub invariant-loop-i : goal.invariant-loop-i
invariant-loop-i l = Walking l.tokens l.i l.passed l.opened.items l.opens l.closes.items

abbrev pub decreases-loop-i : goal.decreases-loop-i
decreases-loop-i l = length l.tokens - l.i
