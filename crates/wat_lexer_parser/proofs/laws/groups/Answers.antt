use Rattle.wat_lexer_parser.proofs.groups.Closing.{group_unique}
use Rattle.wat_lexer_parser.proofs.laws.groups.Goals as goal

pub returns : goal.returns
returns c = group_unique
