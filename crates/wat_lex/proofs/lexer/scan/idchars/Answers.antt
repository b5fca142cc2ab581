use Rattle.wat_lex.proofs.inside.Outlines.{start_tells}
use Rattle.wat_lex.proofs.lexer.scan.idchars.Goals as goal

pub returns : goal.returns
returns c = record {
  len = c.requires.len;
  ends = λ q. let no = c.if-string_follows.ensures.1 q in cc;
  kind = start_tells c.args.text.now c.args.kind _ c.requires.some c.requires.first c.requires.len;
}
