use Rattle.std.proofs.Common.{◌≡◌, ◌≤◌, ◌∙◌, true, false, None, Some, leb, length, slice_get, rules, sym, ap, subst}
use Rattle.std.specs.List.Sorted.{IsNonDecreasingBy, IsPartitionPoint}
use Rattle.std.specs.Option.{option_map}
use Rattle.std.proofs.lemmas.List.Sorted.{IsPartitionPoint-from_clause, IsPartitionedBy-leb}
use Rattle.std.proofs.lemmas.Option.{slice_get_past, slice_get-get_or}
use Rattle.wat_valid.proofs.Runs.{at_point, ends_rise, type_of_run}
use Rattle.wat_valid.proofs.locals.LocalTypes.get.Goals as goal
use Rattle.wat_valid.proofs.locals.LocalTypes.get.Goals.{After-partition_point-run}

point : (c : After-partition_point-run) → IsPartitionPoint (λ e. leb e c.args.index ≡ true) (λ e. leb e c.args.index ≡ false) c.deref.result.now c.partition_point-run.result
point c =
    let rise = subst (IsNonDecreasingBy (λ e. e)) (sym c.deref.ensures.value) (ends_rise c.self.inside.runs.now c.self.inside.ends.items c.self.invariant) in
    IsPartitionPoint-from_clause (λ e. leb e c.args.index) _ _ c.partition_point-run.ensures.partitioned (IsPartitionedBy-leb (λ e. e) c.deref.result.now c.args.index rise) (λ a r q k. search rules)

in_self : (c : After-partition_point-run) → slice_get c.args.self.now c.args.index ≡ option_map type_of_run (slice_get c.self.inside.runs.now c.partition_point-run.result)
in_self c =
    let ends = c.self.inside.ends.items in
    let run = c.partition_point-run.result in
    ap (λ types. slice_get types c.args.index) (sym c.self.view_is) ∙
    at_point c.self.inside.runs.now ends c.args.index run c.self.invariant c.ranges.index.fits
    (subst (λ xs. run ≤ length xs) c.deref.ensures.value c.partition_point-run.ensures.bound)
    (subst (λ xs. IsPartitionPoint (λ e. leb e c.args.index ≡ true) (λ e. leb e c.args.index ≡ false) xs run) c.deref.ensures.value (point c))

pub returns-in-Some : goal.returns-in-Some
returns-in-Some c =
    let run = c.in-Some.ensures.lookup in
    sym (in_self (goal.at.returns-in-Some c).After-partition_point-run ∙ ap (option_map type_of_run) (slice_get-get_or c.self.inside.runs.now c.partition_point-run.result _ run.3.0 ∙ ap Some (sym run.1)))

pub returns-in-None : goal.returns-in-None
returns-in-None c = sym (in_self (goal.at.returns-in-None c).After-partition_point-run ∙ ap (option_map type_of_run) (slice_get_past c.self.inside.runs.now c.partition_point-run.result c.in-None.ensures.lookup.3))
