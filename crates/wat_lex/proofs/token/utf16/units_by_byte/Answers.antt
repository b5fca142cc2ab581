use Rattle.std.proofs.Common.{◌<◌, ◌^◌, rules, length, arith}
use Rattle.std.proofs.lemmas.List.Sums.{sum_by_more_le, sum_by-take-le}
use Rattle.wat_lex.specs.inside.Utf16Bytes.{byte_units}
use Rattle.wat_lex.proofs.errors.Utf16.{total_bound}
use Rattle.wat_lex.proofs.token.utf16.units_by_byte.Goals as goal

pub overflow_add-units : goal.overflow_add-units
overflow_add-units c =
    let b = total_bound c.args.text.now in
    let s = c.loop-i.invariant.so_far in
    let u = c.units_of-units.ensures in
    let m = sum_by_more_le byte_units c.args.text.now c.loop-i.i 0 (omega arith) in
    let small : length c.args.text.now < 2 ^ 63 = search rules in
    record { fits = omega (arith, small, b, s, u, m) }

pub returns-clause-bound : goal.returns-clause-bound
returns-clause-bound c =
    omega (arith, c.loop-i.invariant.so_far, sum_by-take-le byte_units c.args.text.now c.loop-i.i, total_bound c.args.text.now)
