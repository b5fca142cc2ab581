use Rattle.std.proofs.Common.{◌≡◌, map, take, drop, true}
use Rattle.wat_module_instructions.specs.Indices.{AreIndices}
use Rattle.wat_module_ast.specs.Names.{are_distinct, repeated, repeated_after}
use Rattle.wat_module_tokens.specs.Terminals.{label}
use Rattle.wat_module_instructions.proofs.names.repeated.Given as goal

abbrev pub invariant-loop-i : goal.invariant-loop-i
invariant-loop-i l =
    (repeated (map label l.names) ≡ repeated_after (map label (take l.i l.names)) (map label (drop l.i l.names)))
    × (AreIndices l.indices (map label (take l.i l.names)) × (are_distinct (map label (take l.i l.names)) ≡ true))
