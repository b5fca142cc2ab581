use Rattle.std.proofs.Common.{ap, ◌∙◌, arith}
use Rattle.std.proofs.lemmas.Bool.{eqb-true}
use Rattle.wat_lex.specs.inside.Blocks.{failures, is_plain_in_line}
use Rattle.wat_lex.proofs.inside.Blocks.{four_go_on}
use Rattle.wat_lex.proofs.lexer.scan.comments.four_are_plain.Goals as goal

pub returns : goal.returns
returns c = λ clear.
    four_go_on is_plain_in_line is_plain_in_line (λ b h. h) c.args.text.now c.args.i _ _ _ _
    (record {
      first = c.other_than_plain_in_line-first.ensures ∙ ap (failures is_plain_in_line) c.block_at.ensures;
      second = c.other_than_plain_in_line-second.ensures ∙ ap (failures is_plain_in_line) c.block_at-2.ensures;
      third = c.other_than_plain_in_line-third.ensures ∙ ap (failures is_plain_in_line) c.block_at-3.ensures;
      fourth = c.other_than_plain_in_line-fourth.ensures ∙ ap (failures is_plain_in_line) c.block_at-4.ensures;
    })
    (omega arith) (eqb-true _ _ clear)
