use Rattle.std.proofs.Common.{get_or, drop, ap, ◌∙◌, arith}
use Rattle.std.specs.List.{prefix_len}
use Rattle.wat_lex.specs.inside.Blocks.{failures, is_plain_in_block}
use Rattle.wat_lex.proofs.inside.Blocks.{ends_at, ends_before}
use Rattle.wat_lex.proofs.lexer.scan.comments.short_block_comment_len.Goals as goal

pub bounds-text-end : goal.bounds-text-end
bounds-text-end c =
    let others = c.other_than_plain_in_block-others.ensures ∙ ap (failures is_plain_in_block) c.block_at.ensures in
    let at = ends_at is_plain_in_block c.args.text.now 2 16 _ others (omega arith) (omega arith) c.if-others-eq0.false in
    omega (arith, at, ends_before is_plain_in_block c.args.text.now 2 16 _ others (omega arith) c.if-others-eq0.false)

pub bounds-text-end-then-text-end-eq59 : goal.bounds-text-end-then-text-end-eq59
bounds-text-end-then-text-end-eq59 c =
    let others = c.other_than_plain_in_block-others.ensures ∙ ap (failures is_plain_in_block) c.block_at.ensures in
    let at = ends_at is_plain_in_block c.args.text.now 2 16 _ others (omega arith) (omega arith) c.if-others-eq0.false in
    omega (arith, at, ends_before is_plain_in_block c.args.text.now 2 16 _ others (omega arith) c.if-others-eq0.false)

pub returns-then-text-end-eq41 : goal.returns-then-text-end-eq41
returns-then-text-end-eq41 c =
    let text = c.args.text.now in
    let others = c.other_than_plain_in_block-others.ensures ∙ ap (failures is_plain_in_block) c.block_at.ensures in
    let at = ends_at is_plain_in_block text 2 16 _ others (omega arith) (omega arith) c.if-others-eq0.false in
    let within = ends_before is_plain_in_block text 2 16 _ others (omega arith) c.if-others-eq0.false in
    let m = prefix_len is_plain_in_block (drop 2 text) in
    record {
      inside = omega (arith, at);
      range = omega (arith, at, within);
      first = ap (λ x. get_or text x 0) (omega arith) ∙ c.if-text-end-eq59.true;
      second = ap (λ x. get_or text x 0) (omega arith) ∙ c.if-text-end-eq41.true;
    }
