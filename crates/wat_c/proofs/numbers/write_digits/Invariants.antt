use Rattle.wat_c.proofs.Writing.{Written}
use Rattle.wat_c.proofs.numbers.write_digits.Given as goal

abbrev pub invariant-loop-byte : goal.invariant-loop-byte
invariant-loop-byte l = Written l.initial.out l.out l.initial.at l.at l.digits l.byte-index
