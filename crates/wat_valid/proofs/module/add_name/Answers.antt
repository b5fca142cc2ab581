use Rattle.std.proofs.Common.{◌∙◌, ap, is_some, not, sym}
use Rattle.wat_valid.proofs.Distinct.{gained, one_more, turned}
use Rattle.wat_valid.proofs.module.add_name.Goals as goal

pub returns : goal.returns
returns c before h d =
    let e = c.in_ok-insert.ensures in
    record {
      distinct = turned c.is_none.result (is_some c.in_ok-insert.field-0) c.is_none.ensures ∙ ap (λ o. not (is_some o)) e.old ∙ ap not (h c.args.name.now) ∙ sym (one_more c.args.name.now before d);
      has = λ f. gained c.args.name.now c.args.names.now c.insert.new.self tt before h e.updates;
    }
