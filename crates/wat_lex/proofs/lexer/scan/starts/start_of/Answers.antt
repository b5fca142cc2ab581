use Rattle.std.proofs.Common.{rules}
use Rattle.wat_lex.proofs.inside.Starts.{keyword_start, id_start, annotation_start, name_start}
use Rattle.wat_lex.proofs.lexer.scan.starts.start_of.Goals as goal

pub returns-in-36 : goal.returns-in-36
returns-in-36 c = id_start c.args.first c.in-36.is

pub returns-in-64 : goal.returns-in-64
returns-in-64 c = annotation_start c.args.first c.in-64.is

pub returns-in-97 : goal.returns-in-97
returns-in-97 c = keyword_start c.args.first (search rules) (search rules) (search rules) (search rules)

pub returns-in-98 : goal.returns-in-98
returns-in-98 c = keyword_start c.args.first (search rules) (search rules) (search rules) (search rules)

pub returns-in_default : goal.returns-in_default
returns-in_default c = name_start c.args.first (search rules) (search rules) (search rules) (search rules) (search rules) (search rules) (search rules)
