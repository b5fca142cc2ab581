use Rattle.std.proofs.Common.{Bool, T, false, not, ap, sym, ◌∙◌, subst}
use Rattle.std.specs.Float.{binary32, binary64}
use Rattle.std.specs.Float.Numeral.{nearest_float}
use lib.Ieee.{is_nan, to_bits}
use Rattle.wat_floats.proofs.Decimals.{nearest_is, is_number}
use Rattle.wat_floats.proofs.decimal.decimal.Goals as goal

pub float_to_bits-number : goal.float_to_bits-number
float_to_bits-number c = subst (λ (b : Bool). T (not b)) (sym (ap is_nan c.to_float-number.ensures ∙ is_number binary32 _ _ _)) tt

pub float_to_bits-result : goal.float_to_bits-result
float_to_bits-result c = subst (λ (b : Bool). T (not b)) (sym (ap is_nan c.to_float-number-in-Double.ensures ∙ is_number binary64 _ _ _)) tt

pub returns-in-Single : goal.returns-in-Single
returns-in-Single c =
    rw c.in-Single.is (c.from.ensures ∙ ap (to_bits binary32) (c.to_float-number.ensures ∙ ap (nearest_float binary32 false) c.scan-numeral.ensures.parts) ∙ nearest_is binary32 c.args.text.now)

pub returns-in-Double : goal.returns-in-Double
returns-in-Double c =
    rw c.in-Double.is (ap (to_bits binary64) (c.to_float-number-in-Double.ensures ∙ ap (nearest_float binary64 false) c.scan-numeral.ensures.parts) ∙ nearest_is binary64 c.args.text.now)
