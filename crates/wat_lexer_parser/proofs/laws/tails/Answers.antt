use Rattle.wat_lexer_parser.proofs.places.Tails.{tails_are_raw}
use Rattle.wat_lexer_parser.proofs.laws.tails.Goals as goal

pub returns : goal.returns
returns c = tails_are_raw
