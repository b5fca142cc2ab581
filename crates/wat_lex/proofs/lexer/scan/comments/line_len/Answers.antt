use Rattle.std.proofs.Common.{◌∙◌}
use Rattle.memchr.specs.Find.{is_byte2}
use Rattle.wat_lex.proofs.inside.LineComments.{first_place, line_ends_same}
use Rattle.wat_lex.proofs.lexer.scan.comments.line_len.Goals as goal

pub returns : goal.returns
returns c = c.unwrap_or.ensures ∙ first_place (is_byte2 10 13) c.args.text.now c.memchr2.result c.memchr2.ensures ∙ line_ends_same c.args.text.now
