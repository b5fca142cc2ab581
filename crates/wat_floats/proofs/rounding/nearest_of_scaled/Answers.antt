use Rattle.std.proofs.Common.{subst, sym, arith}
use lib.Ieee.{prec}
use Rattle.core.specs.Dec2flt.Rounding.{IsNearestBits}
use Rattle.core.proofs.dec2flt.Patterns.{shape}
use Rattle.wat_floats.specs.Rounding.{format}
use Rattle.wat_floats.proofs.Rounds.{top_bit, kept_below, rounds, too_large, too_small}
use Rattle.wat_floats.proofs.rounding.nearest_of_scaled.Goals as goal

pub overflow_sub-surplus-2 : goal.overflow_sub-surplus-2
overflow_sub-surplus-2 c =
    let s = shape (format c.args.precision) in
    let t = top_bit c.args.count c.requires.count (omega arith) in
    omega arith

pub rounded_bits-requires-clause-dropped : goal.rounded_bits-requires-clause-dropped
rounded_bits-requires-clause-dropped c =
    let s = shape (format c.args.precision) in
    let t = top_bit c.args.count c.requires.count (omega arith) in
    (omega arith, omega arith)

pub rounded_bits-requires-clause-significand : goal.rounded_bits-requires-clause-significand
rounded_bits-requires-clause-significand c =
    let f = format c.args.precision in
    let s = shape f in
    let t = top_bit c.args.count c.requires.count (omega arith) in
    kept_below (prec f) c.args.count t.0 _ t.4 (omega arith)

pub returns-then-least-down : goal.returns-then-least-down
returns-then-least-down c num den u v D is far =
    let f = format c.args.precision in
    let s = shape f in
    let t = top_bit c.args.count c.requires.count (omega arith) in
    subst (IsNearestBits f num den) (sym c.infinity.ensures) (too_large f num den c.args.count c.args.more u v D t.0 t.1 t.3 t.4 is (omega arith))

pub returns-then-below-digits : goal.returns-then-below-digits
returns-then-below-digits c num den u v D is far =
    let f = format c.args.precision in
    let s = shape f in
    let t = top_bit c.args.count c.requires.count (omega arith) in
    too_small f num den c.args.count c.args.more u v D t.0 t.1 t.3 t.4 is (omega arith)

pub returns : goal.returns
returns c num den u v D is far =
    let f = format c.args.precision in
    let s = shape f in
    let t = top_bit c.args.count c.requires.count (omega arith) in
    subst (IsNearestBits f num den) (sym c.rounded_bits.ensures) (rounds f num den c.args.count c.args.more u v _ _ D t.0 t.1 t.3 t.4 is (omega arith) (omega arith) (λ K. omega arith))
