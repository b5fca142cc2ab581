use Rattle.std.proofs.Common.{◌≡◌, take}
use Rattle.wat_lex.specs.values.NumberValues.{joined}
use Rattle.wat_floats.proofs.literal.joined_magnitude.Given as goal

abbrev pub invariant-loop-byte : goal.invariant-loop-byte
invariant-loop-byte l = l.joined.items ≡ joined (take l.byte-index l.word)
