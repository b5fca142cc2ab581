use Rattle.std.proofs.Common.{◌∙◌, bit_or, sym, ap, refl, true, false, arith}
use Rattle.std.specs.Prelude.{◌==◌}
use Rattle.std.proofs.lemmas.Bool.{agree_below_at}
use Rattle.wat_lex.specs.grammar.Numbers.{is_exponent_letter}
use Rattle.wat_lex.proofs.lexer.scan.numbers.is_exponent_letter.Goals as goal

pub returns-then-hex : goal.returns-then-hex
returns-then-hex c = agree_below_at (λ x. bit_or x 32 == 112) (is_exponent_letter true) 256 c.args.b refl (omega arith) ∙ ap (λ h. is_exponent_letter h c.args.b) (sym c.if-hex.true)

pub returns-else-hex : goal.returns-else-hex
returns-else-hex c = agree_below_at (λ x. bit_or x 32 == 101) (is_exponent_letter false) 256 c.args.b refl (omega arith) ∙ ap (λ h. is_exponent_letter h c.args.b) (sym c.if-hex.false)
