use Rattle.wat_lexer_parser.proofs.shown.Marks.{marks_end_in_faults}
use Rattle.wat_lexer_parser.proofs.laws.marks.Goals as goal

pub returns : goal.returns
returns c = marks_end_in_faults
