use Rattle.std.proofs.Common.{◌-◌, length, take, drop, arith}
use Rattle.std.proofs.lemmas.List.{length-take}
use Rattle.std.proofs.lemmas.List.Sums.{prefix_len-le-length}
use Rattle.wat_lex.specs.inside.Blocks.{is_plain_in_line}
use Rattle.wat_lex.proofs.lexer.scan.comments.plain_by_four_blocks.Goals as goal

pub overflow_add-result : goal.overflow_add-result
overflow_add-result c =
    let rest = take (length c.args.text.now - c.loop-i.i) (drop c.loop-i.i c.args.text.now) in
    record { fits = omega (arith, c.plain_by_block.ensures, prefix_len-le-length is_plain_in_line rest, length-take (length c.args.text.now - c.loop-i.i) (drop c.loop-i.i c.args.text.now)) }
