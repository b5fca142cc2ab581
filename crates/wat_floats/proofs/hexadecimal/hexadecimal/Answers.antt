use Rattle.std.proofs.Common.{true, arith}
use Rattle.wat_floats.specs.Literals.{exponent}
use Rattle.wat_floats.specs.Rounding.{format, IsLeading}
use Rattle.wat_floats.proofs.Scaling.{zero_is}
use Rattle.wat_floats.proofs.HexadecimalParts.{number, one_is_none, nearest_is, zero_is_nearest}
use Rattle.wat_floats.proofs.hexadecimal.hexadecimal.Goals as goal

pub returns-then-leading-eq0 : goal.returns-then-leading-eq0
returns-then-leading-eq0 c =
    let r = c.with_fraction-places.result.0 in
    let is : IsLeading (number c.args.text.now) r.count r.dropped r.more = rw c.with_digits.ensures.rest at (c.with_fraction-places.ensures.value _ (c.with_digits.ensures.value 0 c.none.ensures.value)) in
    zero_is_nearest (format c.args.precision) c.args.text.now (zero_is _ r.dropped r.more (rw c.if-leading-eq0.true at is))

pub scaled-requires-clause-count : goal.scaled-requires-clause-count
scaled-requires-clause-count c =
    let is = c.with_fraction-places.ensures.value _ (c.with_digits.ensures.value 0 c.none.ensures.value) in
    (omega arith, is.full)

pub returns : goal.returns
returns c =
    let is = c.with_fraction-places.ensures.value _ (c.with_digits.ensures.value 0 c.none.ensures.value) in
    let near = c.scaled.ensures _ _ _ is c.read.ensures.up_power c.read.ensures.down_power (one_is_none (exponent true c.with_fraction-places.result.2.now)) in
    nearest_is (format c.args.precision) c.args.text.now c.scaled.result (rw (c.with_fraction-places.ensures.places, c.with_fraction-places.ensures.rest, c.with_digits.ensures.rest) at near)
