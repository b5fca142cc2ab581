use Rattle.wat_lexer_parser.proofs.calls.EachShown.{something_is_all, all_is_one}
use Rattle.wat_lexer_parser.proofs.calls.ShownOneByOne.{looks_are_all}
use Rattle.wat_lexer_parser.proofs.laws.all_shown.Goals as goal

pub returns-clause-all_some : goal.returns-clause-all_some
returns-clause-all_some c = something_is_all c.shown.ensures.some

pub returns-clause-all_one : goal.returns-clause-all_one
returns-clause-all_one c = all_is_one c.shown.ensures.one

pub returns-clause-looks : goal.returns-clause-looks
returns-clause-looks c = looks_are_all c.shown.ensures.some
