use Rattle.std.proofs.Common.{◌≡◌, drop}
use Rattle.wat_valid.specs.ContextViews.{marked}
use Rattle.wat_valid.proofs.context.mark_functions.Given as goal

abbrev pub invariant-loop-function : goal.invariant-loop-function
invariant-loop-function l = marked l.functions l.fn.declared ≡ marked (drop l.function-index l.functions) l.declared
