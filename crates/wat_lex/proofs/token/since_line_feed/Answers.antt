use Rattle.wat_lex.proofs.errors.Positions.{since_last, since_start}
use Rattle.wat_lex.proofs.token.since_line_feed.Goals as goal

pub returns-in-Some-clause-count : goal.returns-in-Some-clause-count
returns-in-Some-clause-count c = since_last c.args.text.now c.in-Some.end c.in-Some.ensures.0 c.in-Some.ensures.1

pub returns-in-None-clause-count : goal.returns-in-None-clause-count
returns-in-None-clause-count c = since_start c.args.text.now c.in-None.ensures
