use Rattle.std.proofs.Common.{◌∙◌, ◌+◌, [], ap, drop, length, refl, sym}
use Rattle.wat_module_ast.specs.Grammar.{position}
use Rattle.wat_module_instructions.specs.Indices.{labels_of}
use Rattle.wat_module_instructions.specs.declared.names.NameRun.TheVariants.{Absent, Given}
use Rattle.wat_module_instructions.proofs.NameRuns.{count_next, count_none, from_run, position_none, position_other}
use Rattle.wat_module_instructions.proofs.names.first.Goals.{in-Given+else-eq, in-Absent}
use Rattle.wat_module_instructions.proofs.names.first.Goals as goal

pub loop-run-preserved : goal.loop-run-preserved
loop-run-preserved c =
    let runs = c.args.names.now in
    let i = c.loop-run.run-index in
    let x = c.args.name.now in
    let rest = labels_of (drop (i + 1) runs) in elim c.match-run.branch [
      | in-Given+else-eq w ↦ record {
        found =
            c.loop-run.invariant.found
            ∙ ap (position c.loop-run.index x) (from_run runs i (Given (record { ref_ptr = (0, 0); now = [] })) (Given w.in-Given.given) c.loop-run-test.true w.in-Given.is)
            ∙ position_other c.loop-run.index x w.in-Given.given.now rest (sym w.eq.ensures ∙ w.if-eq.false)
            ∙ ap (λ k. position k x rest) (sym w.index-is);
        count =
            ap (λ k. k + length rest) w.index-is
            ∙ count_next runs i (Given (record { ref_ptr = (0, 0); now = [] })) (Given w.in-Given.given) 1 c.loop-run.index _ c.loop-run-test.true w.in-Given.is refl c.loop-run.invariant.count;
      }
      | in-Absent w ↦ record {
        found =
            c.loop-run.invariant.found
            ∙ ap (position c.loop-run.index x) (from_run runs i (Given (record { ref_ptr = (0, 0); now = [] })) (Absent w.in-Absent.count) c.loop-run-test.true w.in-Absent.is)
            ∙ position_none w.in-Absent.count c.loop-run.index x rest
            ∙ ap (λ k. position k x rest) (sym w.index-is);
        count =
            ap (λ k. k + length rest) w.index-is
            ∙ count_next runs i (Given (record { ref_ptr = (0, 0); now = [] })) (Absent w.in-Absent.count) w.in-Absent.count c.loop-run.index _ c.loop-run-test.true w.in-Absent.is (count_none w.in-Absent.count) c.loop-run.invariant.count;
      }
    ]
