use Rattle.std.proofs.Common.{◌≡◌, length}
use Rattle.wat_module_tokens.specs.TokenCursor.{terminals_of}
use Rattle.wat_module_ast.specs.Grammar.{labels_from}
use Rattle.wat_module_instructions.specs.Machine.{labels_in}
use Rattle.wat_module_instructions.proofs.Labels.{put_before}
use Rattle.wat_module_instructions.proofs.reading.labels_argument.Given as goal

abbrev pub invariant-labels : goal.invariant-labels
invariant-labels l =
    labels_from (labels_in l.frames) l.initial.last.label (terminals_of l.initial.last.cursor) ≡ put_before l.labels.items (labels_from (labels_in l.frames) l.last.label (terminals_of l.last.cursor))

abbrev pub decreases-labels : goal.decreases-labels
decreases-labels l = length (terminals_of l.last.cursor)
