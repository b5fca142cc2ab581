use Rattle.std.proofs.Common.{◌≡◌, length, drop}
use Rattle.wat_module_ast.specs.Types.{same_values}
use Rattle.wat_valid.proofs.blocks.are_same.Given as goal

abbrev pub invariant-loop-i : goal.invariant-loop-i
invariant-loop-i l = (same_values l.some l.others ≡ same_values (drop l.i l.some) (drop l.i l.others)) × (length l.some ≡ length l.others)
