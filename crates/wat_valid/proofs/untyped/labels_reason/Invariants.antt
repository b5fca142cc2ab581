use Rattle.std.proofs.Common.{◌≡◌, drop}
use Rattle.wat_valid.specs.ContextViews.{body_context}
use Rattle.wat_valid.specs.Untyped.{labels_reason}
use Rattle.wat_valid.specs.Views.{labels_in}
use Rattle.wat_valid.proofs.untyped.labels_reason.Given as goal

abbrev pub invariant-loop-label : goal.invariant-loop-label
invariant-loop-label l = labels_reason (body_context l.context) (labels_in l.labels) (drop l.label-index l.chosen) l.reason ≡ labels_reason (body_context l.context) (labels_in l.labels) l.chosen l.reason
