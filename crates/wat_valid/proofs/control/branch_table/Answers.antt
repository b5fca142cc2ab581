use Rattle.std.proofs.Common.{◌∙◌, ◌≡◌, ap, sym, true, List, Some}
use Rattle.std.specs.Prelude.{slice_get}
use Rattle.std.specs.List.{list_all}
use Rattle.wat_module_ast.specs.declared.instruction.Argument.{Argument}
use Rattle.wat_valid.specs.declared.operands.OperandType.{OperandType}
use Rattle.wat_valid.specs.Algorithm.{br_table, effect_on, labels_at, operands}
use Rattle.wat_valid.specs.Views.{fits_at, labels_in, operands_of}
use Rattle.wat_valid.proofs.Branching.{no_index, no_labels, table_applied}
use Rattle.wat_valid.proofs.control.branch_table.Goals as goal

pub returns-then-not-pop_value : goal.returns-then-not-pop_value
returns-then-not-pop_value c =
    ap (λ (a : Argument). effect_on (br_table (labels_in c.args.labels.now) a) (operands_of c.args.operands.now)) c.in-Labels.is ∙
    no_index c.args.operands.now.is_unreachable c.args.operands.now.types.items (labels_at (labels_in c.args.labels.now) c.in-Labels.table.labels) (slice_get (labels_in c.args.labels.now) c.in-Labels.table.default) c.if-not-pop_value.ensures.is

pub returns-then-not-all_fit : goal.returns-then-not-all_fit
returns-then-not-all_fit c =
    let L = labels_in c.args.labels.now in
    let default : slice_get L c.in-Labels.table.default ≡ Some c.in-Some.fallback.now = ap (slice_get L) (sym c.last.ensures) ∙ c.in-Some.ensures in
    ap (λ (a : Argument). effect_on (br_table L a) (operands_of c.args.operands.now)) c.in-Labels.is ∙
    no_labels L c.args.operands.now.is_unreachable c.args.operands.now.types.items c.pop_value.new.operands c.in-Labels.table c.in-Some.fallback.now default c.pop_value.ensures.same c.if-not-pop_value.ensures.is (c.if-not-all_fit.ensures ∙ ap (list_all (fits_at L c.pop_value.new.operands c.in-Some.fallback.now)) c.labels.ensures)

pub returns : goal.returns
returns c =
    let L = labels_in c.args.labels.now in
    let default : slice_get L c.in-Labels.table.default ≡ Some c.in-Some.fallback.now = ap (slice_get L) (sym c.last.ensures) ∙ c.in-Some.ensures in
    ap (λ (a : Argument). effect_on (br_table L a) (operands_of c.args.operands.now)) c.in-Labels.is ∙
    (table_applied L c.args.operands.now.is_unreachable c.args.operands.now.types.items c.pop_value.new.operands c.in-Labels.table c.in-Some.fallback.now true true default c.pop_value.ensures.same c.if-not-pop_value.ensures.is (c.if-not-all_fit.ensures ∙ ap (list_all (fits_at L c.pop_value.new.operands c.in-Some.fallback.now)) c.labels.ensures) c.if-not-has_values.ensures ∙
    ap (λ (ts : List OperandType). Some (operands true ts)) (sym c.clear.ensures.items))
