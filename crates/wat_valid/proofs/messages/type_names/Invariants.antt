use Rattle.std.proofs.Common.{◌≡◌, ◌++◌, map, take}
use Rattle.wat_valid.specs.BodyMessages.{further, operand_name}
use Rattle.wat_valid.proofs.messages.type_names.Given as goal

abbrev pub invariant-loop-of : goal.invariant-loop-of
invariant-loop-of l = map (λ n. n.now) l.names.items ≡ further l.has_more ++ map operand_name (take l.of-index l.types)
