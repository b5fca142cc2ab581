use Rattle.std.proofs.Common.{arith, ◌≡◌, ◌<◌, ◌+◌, ◌-◌, ◌∙◌, length, subst}
use Rattle.std.proofs.lemmas.Option.{slice_get-get_or}
use Rattle.std.proofs.lemmas.List.{length-set}
use Rattle.wat_c_records.specs.Links.{LinkedFrom}
use Rattle.wat_c_records.specs.declared.counting.Row.{Row}
use Rattle.wat_c_records.proofs.Linking.{linked_more, kept_more}
use Rattle.wat_c_records.proofs.links.link.Goals as goal

pub link_of-requires-clause-linked : goal.link_of-requires-clause-linked
link_of-requires-clause-linked c =
    let e : c.links.number ≡ c.links.number - 1 + 1 = omega (arith, c.links-test.true) in
    subst (λ n. LinkedFrom n c.links.rows) e c.links.invariant.linked

pub links-preserved : goal.links-preserved
links-preserved c =
    let e : c.links.number ≡ c.links.number - 1 + 1 = omega (arith, c.links-test.true) in
    let l : c.links.number - 1 < length c.links.rows = omega (arith, c.links-test.true, c.links.invariant.bound) in
    let there = slice_get-get_or c.links.rows (c.links.number - 1) _ l in
    record {
      bound = omega (arith, l, length-set {A = Row});
      linked = linked_more c.links.rows (c.links.number - 1) c.link_of.result _ there (subst
          (λ n. LinkedFrom n c.links.rows) e c.links.invariant.linked) c.link_of.ensures;
      kept = kept_more c.links.rows (c.links.number - 1) c.link_of.result _ there ∙ c.links.invariant.kept;
    }
