use Rattle.std.proofs.Common.{◌∙◌}
use Rattle.memchr.specs.Find.{is_byte2}
use Rattle.wat_lex.proofs.inside.LineComments.{first_place}
use Rattle.wat_lex.proofs.error.stretches.kept_len.Goals as goal

pub returns : goal.returns
returns c = c.unwrap_or.ensures ∙ first_place (is_byte2 9 226) c.args.line.now c.memchr2.result c.memchr2.ensures
