use Rattle.std.proofs.Common.{arith, refl}
use Rattle.wat_c.proofs.NumberCodes.{number_by_code}
use Rattle.wat_c.proofs.float_bits.is_number.Goals as goal

pub returns-in-11-to-15 : goal.returns-in-11-to-15
returns-in-11-to-15 c =
    let range = c.in-11-to-15 in
    (λ _. number_by_code c.args.kind (omega (arith, range)) (omega (arith, range)), λ _. refl)
