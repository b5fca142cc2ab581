use Rattle.wat_c.proofs.CommentLaws.{comments_are_one, comments_are_parsers}
use Rattle.wat_c.proofs.laws.comments_are_parsers.Goals as goal

pub returns-clause-one : goal.returns-clause-one
returns-clause-one c = comments_are_one c.one_answer.ensures.one

pub returns-clause-parsers : goal.returns-clause-parsers
returns-clause-parsers c = comments_are_parsers c.one_answer.ensures.one
