use Rattle.std.proofs.Common.{◌∙◌, ap}
use Rattle.wat_module_tokens.specs.TokenCursor.{terminals_of}
use Rattle.wat_module_ast.specs.Grammar.{labels_by, labels_from, with_labels}
use Rattle.wat_module_instructions.specs.Machine.{labels_in}
use Rattle.wat_module_instructions.proofs.Labels.{labels_on, labels_end, labels_fault, table_is}
use Rattle.wat_module_instructions.proofs.reading.labels_argument.Goals as goal

pub labels-preserved : goal.labels-preserved
labels-preserved c =
    let ls = labels_in c.args.frames.now in
    let label = rw (c.in-Ok-Some.field-0-is) at c.in-Ok-Some.ensures.is in
    labels_on (labels_from ls c.in_ok-label.label (terminals_of c.in_ok-label.cursor)) (labels_from ls c.labels.last.label (terminals_of c.labels.last.cursor)) (labels_from ls c.in-Ok-Some.next.label (terminals_of c.in-Ok-Some.next.cursor)) c.labels.labels.items c.next_label.new.labels.items c.labels.last.label c.labels.invariant label.0 label.1

pub returns-in-Ok-None : goal.returns-in-Ok-None
returns-in-Ok-None c =
    let ls = labels_in c.args.frames.now in
    let none = rw (c.in-Ok-None.field-0-is) at c.in-Ok-None.ensures.is in
    let ts = terminals_of c.labels.last.cursor in
    table_is c.branch_table.result _ _
    (ap (labels_by ls) c.in_ok-label.ensures ∙ ap with_labels (labels_end (labels_from ls c.in_ok-label.label (terminals_of c.in_ok-label.cursor)) (labels_from ls c.labels.last.label ts) c.labels.labels.items c.next_label.new.labels.items c.labels.last.label ts c.labels.invariant none.0 none.1))
    c.branch_table.ensures

pub returns-in-Err : goal.returns-in-Err
returns-in-Err c =
    let ls = labels_in c.args.frames.now in
    labels_fault ls (terminals_of c.args.cursor) (terminals_of c.in_ok-label.cursor) c.in_ok-label.label c.labels.labels.items (labels_from ls c.labels.last.label (terminals_of c.labels.last.cursor)) c.in-Err.refusal c.in_ok-label.ensures c.labels.invariant c.in-Err.ensures.is
