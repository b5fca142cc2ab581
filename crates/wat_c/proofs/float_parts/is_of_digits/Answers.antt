use Rattle.std.proofs.Common.{◌∙◌, bit_or, sym, ap, refl, true, false, arith, sym}
use Rattle.std.specs.Prelude.{◌==◌}
use Rattle.std.proofs.lemmas.Bool.{agree_below_at}
use Rattle.wat_lex.specs.grammar.Numbers.{is_exponent_letter}
use Rattle.wat_c.proofs.FloatSplits.{of_digits_by}
use Rattle.wat_c.proofs.float_parts.is_of_digits.Goals as goal
use Rattle.wat_c.proofs.float_parts.is_of_digits.Goals.{then-hex, else-hex}

pub returns-after-hex : goal.returns-after-hex
returns-after-hex c =
    let byte = c.args.byte in
    of_digits_by c.args.hex byte c.if-hex.result c.if-byte-ne46.true (elim c.if-hex.branch [
      | then-hex w ↦
          ap (λ x. bit_or byte 32 == x) w.result-is ∙ agree_below_at (λ x. bit_or x 32 == 112) (is_exponent_letter true) 256 byte refl (omega arith)
          ∙ ap (λ h. is_exponent_letter h byte) (sym w.if-hex.true)
      | else-hex w ↦
          ap (λ x. bit_or byte 32 == x) w.result-is ∙ agree_below_at (λ x. bit_or x 32 == 101) (is_exponent_letter false) 256 byte refl (omega arith)
          ∙ ap (λ h. is_exponent_letter h byte) (sym w.if-hex.false)
    ])
