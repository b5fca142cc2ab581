use Rattle.std.proofs.Common.{◌≡◌, sym, ap, ◌∙◌, refl, rules, inl, arith, ◌≤◌, ◌<◌}
use Rattle.wat_floats.specs.Rounding.{format, IsCapped}
use Rattle.wat_floats.proofs.Scaling.{whole_bits, whole_zero, whole_leading}
use Rattle.wat_floats.proofs.hexadecimal.whole.Goals as goal

pub returns-then-number-eq0 : goal.returns-then-number-eq0
returns-then-number-eq0 c = whole_zero (format c.args.precision) c.args.number c.if-number-eq0.true

pub returns : goal.returns
returns c =
    let p = c.none.ensures in
    let none : IsCapped 0 c.none.result.up_power = record { most = omega arith; same = λ _. p.0 } in
    let down : IsCapped 0 c.none.result.down_power = record { most = omega arith; same = λ _. p.1 } in
    whole_bits (format c.args.precision) c.args.number _ (c.scaled.ensures c.args.number 0 0 (whole_leading c.args.number) none down (inl refl))
