use Rattle.wat_lex.proofs.tokens.EverySetting.{strings_are_values}
use Rattle.wat_lex.proofs.laws.strings.Goals as goal

pub returns : goal.returns
returns c = strings_are_values
