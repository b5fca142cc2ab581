use Rattle.std.proofs.Common.{◌≡◌, drop}
use Rattle.wat_valid.specs.BodyMessages.{first_other}
use Rattle.wat_valid.specs.Views.{labels_in, operands_of}
use Rattle.wat_valid.proofs.messages.first_other.Given as goal

abbrev pub invariant-loop-label : goal.invariant-loop-label
invariant-loop-label l = first_other (labels_in l.labels) (operands_of l.operands) l.last (drop l.label-index l.chosen) ≡ first_other (labels_in l.labels) (operands_of l.operands) l.last l.chosen
