use Rattle.std.proofs.Common.{◌+◌, ◌*◌, ◌/◌, ◌^◌, ◌≤◌, arith, pow_mono}
use native.Mathlib.Nat.{mul-le-mul_right}
use lib.Ieee.{prec, hid}
use Rattle.core.proofs.dec2flt.Patterns.{shape}
use Rattle.wat_floats.specs.Rounding.{format}
use Rattle.wat_floats.proofs.rounding.rounded_bits.Goals.{then-goes_up, else-goes_up}
use Rattle.wat_floats.proofs.rounding.rounded_bits.Goals as goal

pub overflow_add-exponent : goal.overflow_add-exponent
overflow_add-exponent c =
    let f = format c.args.precision in
    let s = shape f in
    let most : 2 ^ prec f ≤ 2 ^ 53 = pow_mono {i = prec f} {j = 53} (omega arith) in
    let exponents : c.args.exponent * hid f ≤ 2046 * hid f = mul-le-mul_right (hid f) (omega arith) in
    let significand : c.if-goes_up.significand ≤ c.args.count / 2 ^ c.args.dropped + 1 = elim c.if-goes_up.branch [ then-goes_up w ↦ omega arith | else-goes_up w ↦ omega arith ] in
    rw c.exponent_bit.ensures (omega arith)
