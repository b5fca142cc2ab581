use Rattle.std.proofs.Common.{◌-◌, length, take, drop, ap, ◌∙◌, arith}
use Rattle.std.proofs.lemmas.List.{length-take}
use Rattle.std.proofs.lemmas.List.Sums.{prefix_len-le-length}
use Rattle.wat_lex.specs.grammar.Classes.{is_hex}
use Rattle.wat_lex.specs.inside.Blocks.{failures}
use Rattle.wat_lex.proofs.inside.Blocks.{goes_on, ends_at}
use Rattle.wat_lex.proofs.lexer.scan.classes.hex_digit_len_by_block.Goals as goal

pub returns-then-others-ne0 : goal.returns-then-others-ne0
returns-then-others-ne0 c =
    let others = c.other_than_hex_digits-others.ensures ∙ ap (failures is_hex) c.block_at.ensures in
    omega (arith, ends_at is_hex c.args.text.now c.loop-i.i 16 _ others (omega arith) (omega arith) c.if-others-ne0.true)

pub loop-i-preserved : goal.loop-i-preserved
loop-i-preserved c =
    let others = c.other_than_hex_digits-others.ensures ∙ ap (failures is_hex) c.block_at.ensures in
    record {
      range = omega arith;
      so_far = omega (arith, goes_on is_hex c.args.text.now c.loop-i.i 16 _ others (omega arith) c.if-others-ne0.false);
    }

pub overflow_add-result-2 : goal.overflow_add-result-2
overflow_add-result-2 c =
    let rest = take (length c.args.text.now - c.loop-i.i) (drop c.loop-i.i c.args.text.now) in
    record { fits = omega (arith, c.hex_digit_len_by_byte.ensures, prefix_len-le-length is_hex rest, length-take (length c.args.text.now - c.loop-i.i) (drop c.loop-i.i c.args.text.now)) }
