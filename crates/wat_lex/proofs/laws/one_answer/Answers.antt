use Rattle.wat_lex.proofs.tokens.EverySetting.{something_is_at, one_thing_is_at}
use Rattle.wat_lex.proofs.laws.one_answer.Goals as goal

pub returns-clause-some : goal.returns-clause-some
returns-clause-some c = something_is_at

pub returns-clause-one : goal.returns-clause-one
returns-clause-one c = one_thing_is_at
