use Rattle.std.proofs.Common.{arith}
use Rattle.wat_tokens_io.proofs.LineLaws.{last_two, long_digits}
use Rattle.wat_tokens_io.proofs.line.Digits.change.Goals as goal

pub put_last_two-requires : goal.put_last_two-requires
put_last_two-requires c = long_digits c.args.from c.args.to c.args.self.now c.requires.from (omega (arith, c.if-to-lt100.false)) (omega (arith, c.if-to-from.false)) c.ranges.from.fits

pub returns : goal.returns
returns c = last_two c.args.from c.args.to c.args.self.now c.put_last_two.new.self c.requires.from (omega (arith, c.if-to-lt100.false)) (omega (arith, c.if-to-from.false)) c.requires.short (rw c.two_digits.ensures at c.put_last_two.ensures)
