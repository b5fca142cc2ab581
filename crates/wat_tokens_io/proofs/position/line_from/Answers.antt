use Rattle.std.proofs.Common.{arith}
use Rattle.wat_tokens_io.proofs.PositionLaws.{next_line}
use Rattle.wat_tokens_io.proofs.position.line_from.Goals as goal

pub loop-line-preserved : goal.loop-line-preserved
loop-line-preserved c =
    let l = c.loop-line.line in
    record {
      line = next_line c.args.text.now l.number l.start l.end c.line_end.result c.loop-line.invariant.line (omega (arith, c.loop-line-test.true, c.requires.within)) c.line_end.ensures;
      start = omega (arith, c.loop-line-test.true);
    }
