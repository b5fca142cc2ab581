use Rattle.std.proofs.Common.{◌≡◌, ℕ, true, ap, ◌∙◌, arith}
use Rattle.std.proofs.lemmas.Bool.{eqb-true}
use Rattle.std.proofs.lemmas.Bool.Decides.{nat_tests}
use Rattle.wat_lex.specs.inside.Blocks.{failures, is_plain_in_line, is_surely_plain}
use Rattle.wat_lex.proofs.inside.Blocks.{four_go_on}
use Rattle.wat_lex.proofs.lexer.scan.comments.four_are_surely_plain.Goals as goal

plain_surely : (b : ℕ) → is_surely_plain b ≡ true → is_plain_in_line b ≡ true
plain_surely b h = grind (arith, nat_tests)

pub returns : goal.returns
returns c = λ clear.
    four_go_on is_surely_plain is_plain_in_line plain_surely c.args.text.now c.args.i _ _ _ _
    (record {
      first = c.other_than_surely_plain-first.ensures ∙ ap (failures is_surely_plain) c.block_at.ensures;
      second = c.other_than_surely_plain-second.ensures ∙ ap (failures is_surely_plain) c.block_at-2.ensures;
      third = c.other_than_surely_plain-third.ensures ∙ ap (failures is_surely_plain) c.block_at-3.ensures;
      fourth = c.other_than_surely_plain-fourth.ensures ∙ ap (failures is_surely_plain) c.block_at-4.ensures;
    })
    (omega arith) (eqb-true _ _ clear)
