use Rattle.std.proofs.Common.{None, Some, refl, ◌∙◌}
use Rattle.std.proofs.lemmas.Str.{IsCharBoundary-start}
use Rattle.wat_tokens_io.specs.Lines.{line}
use Rattle.wat_tokens_io.specs.lemmas.BlockLaws.{on_err, putting_start, putting_more, putting_cut, putting_end, putting_end_cut}
use Rattle.wat_tokens_output.proofs.list.write_lines.Goals as goal

pub tokens-init : goal.tokens-init
tokens-init g c = record {
  putting = putting_start line c.args.lexer.now _ c.new-block.result (IsCharBoundary-start c.args.lexer.now.text c.input.ensures.utf8) c.new-block.ensures;
  failed = refl;
}

pub tokens-preserved : goal.tokens-preserved
tokens-preserved g c = record {
  putting = putting_more line c.args.lexer.now c.tokens.pos _ _ _ _ _ c.in-Ok-Some.token c.tokens.invariant.putting (rw c.in-Ok-Some.field-0-is at c.in-Ok-Some.ensures.token) (rw c.in-Ok-Some.field-0-is at c.in-Ok-Some.ensures.boundary) c.in_ok-put_line-in-Ok-Some.ensures.put;
  failed = c.in_ok-put_line-in-Ok-Some.ensures.failed ∙ c.tokens.invariant.failed;
}

pub returns-in_err-put_line-in-Ok-Some-clause-cut : goal.returns-in_err-put_line-in-Ok-Some-clause-cut
returns-in_err-put_line-in-Ok-Some-clause-cut g c =
    on_err c.from_residual.result (putting_cut c.one_tiling.ensures.some line c.args.lexer.now c.tokens.pos _ _ _ _ c.in-Ok-Some.token c.input.ensures.utf8 c.tokens.invariant.putting (rw c.in-Ok-Some.field-0-is at c.in-Ok-Some.ensures.token)
    (rw c.in-Ok-Some.field-0-is at c.in-Ok-Some.ensures.boundary) c.in_err-put_line-in-Ok-Some.ensures.cut)

pub returns-in-Ok-None-clause-written : goal.returns-in-Ok-None-clause-written
returns-in-Ok-None-clause-written g c = putting_end line c.args.lexer.now c.tokens.pos None _ _ _ _ c.write.result c.tokens.invariant.putting (rw c.in-Ok-None.field-0-is at c.in-Ok-None.ensures.end) c.write.ensures.written

pub returns-in-Ok-None-clause-cut : goal.returns-in-Ok-None-clause-cut
returns-in-Ok-None-clause-cut g c = putting_end_cut line c.args.lexer.now c.tokens.pos None _ _ _ _ c.write.result c.tokens.invariant.putting (rw c.in-Ok-None.field-0-is at c.in-Ok-None.ensures.end) c.write.ensures.cut

pub returns-in-Err-clause-written : goal.returns-in-Err-clause-written
returns-in-Err-clause-written g c = putting_end line c.args.lexer.now c.tokens.pos (Some c.in-Err.field-0) _ _ _ _ c.write-in-Err.result c.tokens.invariant.putting c.in-Err.ensures.fault c.write-in-Err.ensures.written

pub returns-in-Err-clause-cut : goal.returns-in-Err-clause-cut
returns-in-Err-clause-cut g c = putting_end_cut line c.args.lexer.now c.tokens.pos (Some c.in-Err.field-0) _ _ _ _ c.write-in-Err.result c.tokens.invariant.putting c.in-Err.ensures.fault c.write-in-Err.ensures.cut
