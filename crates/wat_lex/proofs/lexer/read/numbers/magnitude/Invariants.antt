use Rattle.std.proofs.Common.{◌≡◌, drop}
use Rattle.std.specs.Str.Parse.{digits_value, digits_value_after}
use Rattle.wat_lex.specs.values.NumberValues.{base, joined}
use Rattle.wat_lex.proofs.lexer.read.numbers.magnitude.Given as goal

abbrev pub invariant-loop-byte : goal.invariant-loop-byte
invariant-loop-byte l = (l.base ≡ base l.hex) × (digits_value_after (base l.hex) l.value (joined (drop l.byte-index l.digits)) ≡ digits_value (base l.hex) (joined l.digits))
