use Rattle.std.proofs.Common.{◌∙◌}
use Rattle.memchr.specs.Find.{is_byte3}
use Rattle.wat_lex.proofs.inside.LineComments.{first_place}
use Rattle.wat_lex.proofs.lexer.scan.comments.plain_by_search.Goals as goal

pub returns : goal.returns
returns c = c.unwrap_or.ensures ∙ first_place (is_byte3 10 13 226) c.args.text.now c.memchr3.result c.memchr3.ensures
