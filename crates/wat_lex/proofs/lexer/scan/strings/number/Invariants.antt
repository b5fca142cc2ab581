use Rattle.std.proofs.Common.{length}
use Rattle.std.specs.Str.Iter.{chars_rest}
use Rattle.wat_lex.proofs.inside.HexRows.{Row}
use Rattle.wat_lex.proofs.lexer.scan.strings.number.Given as goal

abbrev pub invariant-row : goal.invariant-row
invariant-row l = Row l.flags l.fn.first (chars_rest l.fn.it) (chars_rest l.it) l.n l.underscore l.last

abbrev pub decreases-row : goal.decreases-row
decreases-row l = length (chars_rest l.it)
