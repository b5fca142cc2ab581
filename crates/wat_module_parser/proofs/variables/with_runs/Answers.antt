use Rattle.std.proofs.Common.{◌∙◌, ◌+◌, ◌++◌, ◌∷◌, [], append_assoc, ap, drop, length, map, refl, sym}
use Rattle.std.proofs.lemmas.List.{map-append}
use Rattle.wat_module_ast.specs.Names.{association, associations}
use Rattle.wat_module_ast.specs.Views.{association_of}
use Rattle.wat_module_instructions.specs.Indices.{labels_of}
use Rattle.wat_module_instructions.specs.declared.names.NameRun.TheVariants.{Absent, Given}
use Rattle.wat_module_parser.proofs.VariableLists.{associations_given, associations_none, count_next, count_none, from_run}
use Rattle.wat_module_parser.proofs.variables.with_runs.Goals.{in-Given+in_ok-push-in-Given, in-Absent}
use Rattle.wat_module_parser.proofs.variables.with_runs.Goals as goal

pub loop-run-preserved : goal.loop-run-preserved
loop-run-preserved c =
    let runs = c.args.runs.now in
    let i = c.loop-run.run-index in
    let before = map association_of c.loop-run.names.items in
    let rest = labels_of (drop (i + 1) runs) in elim c.match-run.branch [
      | in-Given+in_ok-push-in-Given w ↦
          let a = association c.loop-run.index w.in-Given.name.now in record {
            are =
                c.loop-run.invariant.are
                ∙ ap (λ ls. before ++ associations c.loop-run.index ls) (from_run runs i (Given (record { ref_ptr = (0, 0); now = [] })) (Given w.in-Given.name) c.loop-run-test.true w.in-Given.is)
                ∙ ap (λ rest. before ++ rest) (associations_given c.loop-run.index w.in-Given.name.now rest)
                ∙ sym (append_assoc before (a ∷ []) (associations (c.loop-run.index + 1) rest))
                ∙ ap (λ before. before ++ associations (c.loop-run.index + 1) rest)
                (sym (map-append association_of c.loop-run.names.items (record { index = c.loop-run.index; name = w.in-Given.name } ∷ []))
                ∙ ap (map association_of) (sym w.in_ok-push-in-Given.ensures.items)
                ∙ ap (λ v. map association_of v.items) (sym w.names-is))
                ∙ ap (λ k. map association_of c.match-run.names.items ++ associations k rest) (sym w.index-is);
            count =
                ap (λ k. k + length rest) w.index-is
                ∙ count_next runs i (Given (record { ref_ptr = (0, 0); now = [] })) (Given w.in-Given.name) 1 c.loop-run.index _ c.loop-run-test.true w.in-Given.is refl c.loop-run.invariant.count;
          }
      | in-Absent w ↦ record {
        are =
            c.loop-run.invariant.are
            ∙ ap (λ ls. before ++ associations c.loop-run.index ls) (from_run runs i (Given (record { ref_ptr = (0, 0); now = [] })) (Absent w.in-Absent.count) c.loop-run-test.true w.in-Absent.is)
            ∙ ap (λ rest. before ++ rest) (associations_none w.in-Absent.count c.loop-run.index rest)
            ∙ ap (λ v. map association_of v.items ++ associations (c.loop-run.index + w.in-Absent.count) rest) (sym w.names-is)
            ∙ ap (λ k. map association_of c.match-run.names.items ++ associations k rest) (sym w.index-is);
        count =
            ap (λ k. k + length rest) w.index-is
            ∙ count_next runs i (Given (record { ref_ptr = (0, 0); now = [] })) (Absent w.in-Absent.count) w.in-Absent.count c.loop-run.index _ c.loop-run-test.true w.in-Absent.is (count_none w.in-Absent.count) c.loop-run.invariant.count;
      }
    ]
