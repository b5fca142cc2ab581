use Rattle.std.proofs.Common.{◌≡◌, length, take, drop, ap, arith, length-drop}
use Rattle.std.proofs.lemmas.List.{length-take-le, take_rest}
use Rattle.std.proofs.lemmas.List.Sums.{prefix_len-le-length}
use Rattle.std.specs.List.{prefix_len}
use Rattle.wat_lex.specs.inside.Blocks.{is_plain_in_line}
use Rattle.wat_lex.proofs.inside.Blocks.{goes_on_after, ends_within}
use Rattle.wat_lex.proofs.lexer.scan.comments.plain_len_in_line.Goals as goal

pub returns-then-plain-near : goal.returns-then-plain-near
returns-then-plain-near c =
    let text = c.args.text.now in
    let near = c.min-near.result in
    let long : length (take near text) ≡ near = length-take-le near text (omega (arith, c.min-near.ensures)) in
    let e = ends_within is_plain_in_line text near (omega (arith, long, c.plain_by_block-plain.ensures, c.if-plain-near.true)) in
    omega (arith, e, c.plain_by_block-plain.ensures)

pub overflow_add-result : goal.overflow_add-result
overflow_add-result c =
    let text = c.args.text.now in
    let near = c.min-near.result in
    let after = ap (prefix_len is_plain_in_line) (take_rest text near) in
    record { fits = omega (arith, c.min-near.ensures, c.plain_by_four_blocks.ensures, after, prefix_len-le-length is_plain_in_line (drop near text), length-drop near text) }

pub returns : goal.returns
returns c =
    let text = c.args.text.now in
    let near = c.min-near.result in
    let long : length (take near text) ≡ near = length-take-le near text (omega (arith, c.min-near.ensures)) in
    let after = ap (prefix_len is_plain_in_line) (take_rest text near) in
    let some = prefix_len-le-length is_plain_in_line (take near text) in
    let e = goes_on_after is_plain_in_line text near (omega (arith, long, c.plain_by_block-plain.ensures, c.if-plain-near.false, some)) in
    omega (arith, e, long, c.plain_by_four_blocks.ensures, after)
