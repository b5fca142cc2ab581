use Rattle.std.proofs.Common.{◌≡◌, ◌≤◌, ap, arith, length, length-drop}
use Rattle.wat_tokens_io.proofs.LineLaws.{last_put}
use Rattle.wat_tokens_io.proofs.line.Digits.put_last_two.Goals as goal

pub returns : goal.returns
returns c =
    let i = c.self.inside in
    let len : length i.bytes ≡ 26 = omega (arith, c.self.told) in
    let start : i.start ≤ 8 = omega (arith, c.requires, ap length c.self.view_is, length-drop i.start i.bytes, len, c.self.invariant) in
    rw (← c.self.view_is) (last_put i.start i.bytes c.copy_from_slice.new.self c.args.pair start len c.copy_from_slice.ensures.after)
