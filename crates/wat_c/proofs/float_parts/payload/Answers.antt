use Rattle.std.proofs.Common.{◌-◌, length, ap}
use Rattle.wat_c.proofs.FloatRanges.{payload_known}
use Rattle.wat_c.proofs.float_parts.payload.Goals as goal

pub returns : goal.returns
returns c =
    payload_known c.args.word.now c.args.end (length c.unsigned.result.now - 6) c.before-2.result c.requires.number (ap (λ s. length s - 6) c.unsigned.ensures)
    (record { none = c.before-2.ensures.none; some = c.before-2.ensures.some })
