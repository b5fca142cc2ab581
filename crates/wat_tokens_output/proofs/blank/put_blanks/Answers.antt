use Rattle.std.proofs.Common.{◌∙◌}
use Rattle.wat_lexer_parser.specs.laws.BlankTexts.{blank_byte}
use Rattle.wat_tokens_io.specs.lemmas.BlockLaws.{on_err, puts_next, puts_cut}
use Rattle.wat_tokens_output.proofs.blank.put_blanks.Goals as goal

pub loop-byte-preserved : goal.loop-byte-preserved
loop-byte-preserved g c = record {
  puts = puts_next blank_byte _ _ _ _ _ _ c.args.comment.now c.loop-byte.byte-index c.blank_byte.result c.loop-byte-test.true c.blank_byte.ensures c.loop-byte.invariant.puts c.in_ok-put.ensures.put;
  failed = c.in_ok-put.ensures.failed ∙ c.loop-byte.invariant.failed;
}

pub returns-in_err-put-clause-cut : goal.returns-in_err-put-clause-cut
returns-in_err-put-clause-cut g c =
    on_err c.from_residual.result (puts_cut blank_byte _ _ _ _ _ c.args.comment.now c.loop-byte.byte-index c.blank_byte.result c.loop-byte-test.true c.blank_byte.ensures c.loop-byte.invariant.puts c.in_err-put.ensures.cut)
