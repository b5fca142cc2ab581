use Rattle.wat_lex.proofs.tokens.EverySetting.{cuts_are_one}
use Rattle.wat_lex.proofs.laws.floats.Goals as goal

pub returns : goal.returns
returns c = cuts_are_one
