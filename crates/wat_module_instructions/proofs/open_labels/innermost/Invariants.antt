use Rattle.std.proofs.Common.{◌≡◌, ◌≤◌, length}
use Rattle.wat_module_instructions.specs.Heights.{height_of, seen}
use Rattle.wat_module_instructions.proofs.open_labels.innermost.Given as goal

abbrev pub invariant-loop-outer : goal.invariant-loop-outer
invariant-loop-outer l = (height_of l.name (seen l.labels) ≡ height_of l.name (seen l.outer)) × (length l.outer ≤ length l.labels)

abbrev pub decreases-loop-outer : goal.decreases-loop-outer
decreases-loop-outer l = length l.outer
