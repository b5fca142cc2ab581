use Rattle.std.proofs.Common.{◌==◌, ◌+◌, get_or, refl, true}
use Rattle.std.proofs.lemmas.Bool.{agree_below_at, eqb-true}
use Rattle.wat_c_records.specs.inside.OneByte.{sorts}
use Rattle.wat_c_records.specs.declared.one_byte.TheConstants.{BYTES}
use Rattle.wat_c_records.proofs.one_byte.sorts.Goals as goal

pub returns : goal.returns
returns c =
    eqb-true (get_or BYTES (256 + c.args.byte) 0) (sorts c.args.byte) (agree_below_at (λ b. get_or BYTES (256 + b) 0 == sorts b) (λ _. true) 256 c.args.byte refl c.ranges.byte.fits)
