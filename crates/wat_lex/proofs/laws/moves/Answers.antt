use Rattle.wat_lex.proofs.tokens.EverySetting.{tokens_of_moves}
use Rattle.wat_lex.proofs.laws.moves.Goals as goal

pub returns : goal.returns
returns c = tokens_of_moves
