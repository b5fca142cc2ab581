use Rattle.std.proofs.Common.{◌∙◌, Bool, ap, sym}
use Rattle.std.specs.List.{list_all}
use Rattle.std.specs.Prelude.{◌&&◌}
use Rattle.wat_valid.specs.Views.{labels_in}
use Rattle.wat_valid.specs.Wants.{has_label}
use Rattle.wat_valid.proofs.wanted.all_exist.Goals as goal

pub returns-then-all_of : goal.returns-then-all_of
returns-then-all_of c =
    let L = labels_in c.args.labels.now in
    let b = c.args.table.now in
    c.exists.ensures ∙ ap (has_label L) c.last.ensures ∙
    sym (ap (λ (x : Bool). x && has_label L b.default) (sym (ap (list_all (has_label L)) c.labels.ensures) ∙ sym c.all_of.ensures ∙ c.if-all_of.true))
