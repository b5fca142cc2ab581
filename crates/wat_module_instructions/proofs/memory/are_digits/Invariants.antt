use Rattle.std.proofs.Common.{◌≡◌, drop}
use Rattle.wat_module_ast.specs.Memory.{are_digits}
use Rattle.wat_module_instructions.proofs.Digits.{digits_from}
use Rattle.wat_module_instructions.proofs.memory.are_digits.Given as goal

abbrev pub invariant-loop-byte : goal.invariant-loop-byte
invariant-loop-byte l = digits_from l.hex l.after_digit (drop l.byte-index l.digits) ≡ are_digits l.hex l.digits
