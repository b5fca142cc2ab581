use Rattle.wat_lexer_parser.proofs.inside.Heads.{StartedFor}
use Rattle.wat_lexer_parser.proofs.parser.table.starts.Given as goal

abbrev pub invariant-loop-before : goal.invariant-loop-before
invariant-loop-before l = StartedFor l.before l.opens l.starts.items
