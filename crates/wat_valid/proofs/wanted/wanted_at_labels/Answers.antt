use Rattle.std.proofs.Common.{Bool, Some, None, ap, sym, ◌∙◌}
use Rattle.std.specs.Option.{option_map}
use Rattle.std.specs.Prelude.{if◌then◌else◌}
use Rattle.wat_module_ast.specs.declared.instruction.Argument.{Argument}
use Rattle.wat_valid.specs.Algorithm.{br_table}
use Rattle.wat_valid.specs.Views.{labels_in}
use Rattle.wat_valid.specs.Wants.{LabelTypes, wants_of}
use Rattle.wat_valid.proofs.Wanting.{table_wants}
use Rattle.wat_valid.proofs.wanted.wanted_at_labels.Goals as goal

pub returns-then-all_exist : goal.returns-then-all_exist
returns-then-all_exist c =
    let L = labels_in c.args.labels.now in
    sym (ap (λ (a : Argument). option_map wants_of (br_table L a)) c.in-Labels.is ∙ table_wants L c.in-Labels.table ∙ ap (λ (b : Bool). if b then Some LabelTypes else None) (sym c.all_exist.ensures ∙ c.if-all_exist.true))

pub returns-else-all_exist : goal.returns-else-all_exist
returns-else-all_exist c =
    let L = labels_in c.args.labels.now in
    sym (ap (λ (a : Argument). option_map wants_of (br_table L a)) c.in-Labels.is ∙ table_wants L c.in-Labels.table ∙ ap (λ (b : Bool). if b then Some LabelTypes else None) (sym c.all_exist.ensures ∙ c.if-all_exist.false))
