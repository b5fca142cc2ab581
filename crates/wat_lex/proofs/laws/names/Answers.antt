use Rattle.wat_lex.proofs.tokens.EverySetting.{names_are_there, names_are_one, names_are_values}
use Rattle.wat_lex.proofs.laws.names.Goals as goal

pub returns-clause-some : goal.returns-clause-some
returns-clause-some c = names_are_there

pub returns-clause-one : goal.returns-clause-one
returns-clause-one c = names_are_one

pub returns-clause-value : goal.returns-clause-value
returns-clause-value c = names_are_values
