use Rattle.wat_lex.proofs.tokens.EverySetting.{tokens_of_cuts}
use Rattle.wat_lex.proofs.laws.cuts.Goals as goal

pub returns : goal.returns
returns c = tokens_of_cuts
