use Rattle.std.proofs.Common.{◌≡◌, drop}
use Rattle.wat_valid.specs.ContextViews.{marked}
use Rattle.wat_valid.specs.Modules.{expression_refs}
use Rattle.wat_valid.proofs.context.mark_instructions.Given as goal

abbrev pub invariant-loop-instruction : goal.invariant-loop-instruction
invariant-loop-instruction l = marked (expression_refs l.all) l.fn.declared ≡ marked (expression_refs (drop l.instruction-index l.all)) l.declared
