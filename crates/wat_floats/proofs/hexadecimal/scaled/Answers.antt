use Rattle.std.proofs.Common.{◌+◌, ◌*◌, ◌≤◌, arith, mod-eq_of_lt, w64}
use Rattle.std.specs.Int.{leading_zeros}
use Rattle.std.proofs.lemmas.Nat.{leading_le}
use Rattle.wat_floats.proofs.Scaling.{den_pos, with_dropped, moved, capped, moved_up}
use Rattle.wat_floats.proofs.hexadecimal.scaled.Goals as goal

pub nearest_of_scaled-requires-2-clause-count : goal.nearest_of_scaled-requires-2-clause-count
nearest_of_scaled-requires-2-clause-count c = let m = moved_up c.args.leading.count c.requires.count.0 (omega arith) in rw (mod-eq_of_lt m.0) m.1

pub returns-then-leading-gt0 : goal.returns-then-leading-gt0
returns-then-leading-gt0 c n r l is p q one =
    let a = c.args.leading in
    let places = c.args.places in
    c.nearest_of_scaled.ensures _ _ (a.dropped * 4 + r) (places * 4 + l) (den_pos n r l places) (with_dropped n r l places a.count a.dropped a.more is)
    (capped r l c.args.power.up_power c.args.power.down_power (a.dropped * 4) (places * 4) _ _ _ _ p q one (omega arith) (omega arith) (omega arith, omega arith) (omega arith, omega arith))

pub returns : goal.returns
returns c n r l is p q one =
    let a = c.args.leading in
    let places = c.args.places in
    let zeros = leading_zeros w64 a.count in
    let m = moved_up a.count c.requires.count.0 (omega arith) in
    let few : zeros ≤ 64 = leading_le 64 a.count in
    c.nearest_of_scaled-2.ensures _ _ r (zeros + (places * 4 + l)) (den_pos n r l places) (moved n r l places a.count a.dropped a.more zeros is (omega arith) m.0)
    (capped r l c.args.power.up_power c.args.power.down_power 0 (zeros + places * 4) _ _ _ _ p q one (omega arith) (omega arith) (omega arith, omega arith) (omega arith, omega arith))
