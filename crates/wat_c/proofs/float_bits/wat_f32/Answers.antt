use Rattle.std.proofs.Common.{subst}
use Rattle.std.specs.Float.{binary32}
use Rattle.wat_c_records.specs.Rows.{setting}
use Rattle.wat_c.specs.FloatBits.{FindsBits, ReadsBits, number as number_at}
use Rattle.wat_c.proofs.float_bits.wat_f32.Goals as goal

pub returns-in-Some-clause-found : goal.returns-in-Some-clause-found
returns-in-Some-clause-found c =
    let is = c.in-Some.ensures.some in
    let reads = subst (λ w. ReadsBits binary32 w c.of.result.bits c.of.result.status) c.src.ensures.text c.of.ensures in
    subst (λ x. FindsBits binary32 (setting x c.args.allow c.args.strict) c.args.pos c.of.result.bits c.of.result.status) c.from_utf8_unchecked-text.ensures
    (number_at c.in-Some.token is.2 is.0 reads)
