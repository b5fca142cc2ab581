use Rattle.std.proofs.Common.{◌+◌, arith}
use Rattle.wat_lex.proofs.inside.Leads.{none_passes}
use Rattle.wat_lex.proofs.inside.Nesting.{past_stretch}
use Rattle.wat_lex.specs.inside.Nesting.{delimits}
use Rattle.wat_lex.proofs.lexer.scan.comments.closing_len.Goals as goal

pub loop-i-preserved-then-found-eq0 : goal.loop-i-preserved-then-found-eq0
loop-i-preserved-then-found-eq0 c =
    let s = c.args.text.now in
    let i = c.loop-i.i in
    let v = c.loop-i.invariant in
    let none = none_passes (delimits s) i 16 c.delimiters-found.result c.delimiters-found.ensures c.if-found-eq0.true in
    record {
      some = v.some;
      few = omega (arith, v.few);
      range = omega (arith, c.loop-i-test.true);
      reaches = past_stretch s i (i + 16) c.loop-i.level (omega arith) (omega (arith, c.loop-i-test.true)) v.some none v.reaches;
    }
