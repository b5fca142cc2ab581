use Rattle.std.proofs.Common.{◌≡◌, drop}
use Rattle.wat_module_ast.specs.Slots.{hash_from}
use Rattle.wat_module_ast.proofs.slots.hash.Given as goal

abbrev pub invariant-loop-byte : goal.invariant-loop-byte
invariant-loop-byte l = hash_from l.hash (drop l.byte-index l.word) ≡ hash_from 0 l.word
