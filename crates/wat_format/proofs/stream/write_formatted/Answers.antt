use Rattle.std.proofs.Common.{◌∙◌, ◌+◌, refl, string_bytes}
use Rattle.std.proofs.lemmas.Str.{IsCharBoundary-start}
use Rattle.wat_format.specs.Layout.{layout}
use Rattle.wat_format.specs.declared.stream.WriteError.TheVariants.{Memory}
use Rattle.wat_format.specs.inside.Writing.{CutsShort}
use Rattle.wat_format.proofs.Formats.{boundary_after}
use Rattle.wat_format.proofs.Laying.{few_start, lays_in, on_ok}
use Rattle.wat_format.proofs.Streaming.{remains_start, formatted_from, remains_next, remains_drained, part_only, part_of_block, all_written, part_of_last, cuts_short, on_error, passed_on}
use Rattle.wat_format.proofs.stream.write_formatted.Goals as goal

pub tokens-init : goal.tokens-init
tokens-init g c = record {
  boundary = IsCharBoundary-start c.args.lexer.now.text c.input-text.ensures.utf8;
  few = few_start _ c.new-formatter.ensures;
  kept = refl;
  answer = layout c.args.lexer.now.text c.requires.tokens;
  formatted = formatted_from c.args.lexer.now c.requires;
  remains = remains_start c.args.lexer.now _ _ _ c.requires c.new-formatter.ensures c.new-block.ensures.bytes;
}

pub tokens-preserved : goal.tokens-preserved
tokens-preserved g c =
    let s = c.args.lexer.now in
    let answer = c.tokens.invariant.answer in
    let held = g.W.Sink.held c.args.output.now in
    record {
      boundary = boundary_after s c.tokens.pos c.in-Some.token c.in-Some.ensures.some.token c.in-Some.ensures.some.boundary;
      few = c.in_ok-take.ensures.few;
      kept = c.in_ok-write_if_full.ensures.failed ∙ c.tokens.invariant.kept;
      answer = answer;
      formatted = c.tokens.invariant.formatted;
      remains = remains_drained s answer _ _ held _ _ _ _
          (remains_next s answer c.tokens.pos c.tokens.formatter held _ c.one_answer.ensures.one (string_bytes c.tokens.block) (string_bytes c.take.new.out) c.take.new.self c.in-Some.token c.tokens.invariant.remains c.in-Some.ensures.some.token
          (lays_in c.input-text.result.now s.text c.tokens.formatter c.take.new.self c.in-Some.token (string_bytes c.tokens.block) (string_bytes c.take.new.out) c.input-text.ensures.text c.in_ok-take.ensures.written)) c.in_ok-write_if_full.ensures.drained;
    }

pub returns-in_err-take-clause-cut : goal.returns-in_err-take-clause-cut
returns-in_err-take-clause-cut g c =
    let s = c.args.lexer.now in
    let held = g.W.Sink.held c.args.output.now in
    let kept = g.W.Sink.held c.tokens.output in
    passed_on (CutsShort s held kept) c.from_residual.result (Memory c.in_err-take.field-0.0) c.from_residual.ensures.1
    (part_only s c.tokens.invariant.answer c.tokens.pos c.tokens.formatter held kept (string_bytes c.tokens.block) c.tokens.invariant.formatted c.tokens.invariant.remains)

pub returns-in_err-finish-clause-cut : goal.returns-in_err-finish-clause-cut
returns-in_err-finish-clause-cut g c =
    let s = c.args.lexer.now in
    let held = g.W.Sink.held c.args.output.now in
    let kept = g.W.Sink.held c.tokens.output in
    passed_on (CutsShort s held kept) c.from_residual-in_err-finish.result (Memory c.in_err-finish.field-0.0) c.from_residual-in_err-finish.ensures.1
    (part_only s c.tokens.invariant.answer c.tokens.pos c.tokens.formatter held kept (string_bytes c.tokens.block) c.tokens.invariant.formatted c.tokens.invariant.remains)

pub returns-in_err-write_if_full-clause-cut : goal.returns-in_err-write_if_full-clause-cut
returns-in_err-write_if_full-clause-cut g c =
    let s = c.args.lexer.now in
    let answer = c.tokens.invariant.answer in
    let held = g.W.Sink.held c.args.output.now in
    let kept = g.W.Sink.held c.tokens.output in
    let new = g.W.Sink.held c.write_if_full.new.output in
    let block = string_bytes c.take.new.out in
    let remains = remains_next s answer c.tokens.pos c.tokens.formatter held kept c.one_answer.ensures.one (string_bytes c.tokens.block) block c.take.new.self c.in-Some.token c.tokens.invariant.remains c.in-Some.ensures.some.token
    (lays_in c.input-text.result.now s.text c.tokens.formatter c.take.new.self c.in-Some.token (string_bytes c.tokens.block) block c.input-text.ensures.text c.in_ok-take.ensures.written) in
    passed_on (CutsShort s held new) c.from_residual-in_err-write_if_full.result c.in_err-write_if_full.field-0.0 c.from_residual-in_err-write_if_full.ensures.1
    (cuts_short s held kept new block c.in_err-write_if_full.field-0.0
    (part_of_block s answer (c.in-Some.token.offset + c.in-Some.token.len) c.take.new.self held kept new block c.tokens.invariant.formatted remains) c.in_err-write_if_full.ensures.cut)

pub returns-clause-written : goal.returns-clause-written
returns-clause-written g c =
    let s = c.args.lexer.now in
    let held = g.W.Sink.held c.args.output.now in
    let kept = g.W.Sink.held c.tokens.output in
    let new = g.W.Sink.held c.write_bytes.new.output in
    on_ok c.write_bytes.result
    (all_written s c.tokens.invariant.answer c.tokens.pos c.tokens.formatter held kept c.one_answer.ensures.one new (string_bytes c.tokens.block) (string_bytes c.finish.new.out) c.tokens.invariant.formatted c.tokens.invariant.remains c.in_default.ensures.none c.in_ok-finish.ensures)
    (rw c.as_bytes.ensures.value at c.write_bytes.ensures.bytes)

pub returns-clause-cut : goal.returns-clause-cut
returns-clause-cut g c =
    let s = c.args.lexer.now in
    let held = g.W.Sink.held c.args.output.now in
    let kept = g.W.Sink.held c.tokens.output in
    let new = g.W.Sink.held c.write_bytes.new.output in
    let last = string_bytes c.finish.new.out in
    on_error c.write_bytes.result
    (λ e. cuts_short s held kept new last e
    (part_of_last s c.tokens.invariant.answer c.tokens.pos c.tokens.formatter held kept c.one_answer.ensures.one new (string_bytes c.tokens.block) last c.tokens.invariant.formatted c.tokens.invariant.remains c.in_default.ensures.none c.in_ok-finish.ensures))
    (rw c.as_bytes.ensures.value at c.write_bytes.ensures.cut)
