use Rattle.std.proofs.Common.{◌∙◌, ◌+◌, [], ap, is_some, refl, sym, arith}
use Rattle.wat_module_instructions.specs.declared.names.NameRun.TheVariants.{Absent, Given}
use Rattle.wat_module_instructions.proofs.NameRuns.{count_below, count_none, count_to, inserted_run, passed_run, repeated_run}
use Rattle.wat_module_instructions.proofs.names.indices.Goals.{in-Given+in_ok-insert-in-Given+else-is_some, in-Absent}
use Rattle.wat_module_instructions.proofs.names.indices.Goals as goal

pub returns-then-is_some-clause-distinct : goal.returns-then-is_some-clause-distinct
returns-then-is_some-clause-distinct c =
    sym (repeated_run c.args.names.now c.loop-run.run-index (Given (record { ref_ptr = (0, 0); now = [] })) c.in-Given.given c.loop-run-test.true c.in-Given.is
    (ap is_some (sym (c.loop-run.invariant.are c.in-Given.given.now) ∙ sym c.in_ok-insert-in-Given.ensures.old) ∙ sym c.is_some.ensures ∙ c.if-is_some.true))

pub overflow_add-index : goal.overflow_add-index
overflow_add-index c =
    let below = count_below c.args.names.now c.loop-run.run-index (Given (record { ref_ptr = (0, 0); now = [] })) (Given c.in-Given.given) 1 c.loop-run-test.true c.in-Given.is refl in
    let index = c.loop-run.invariant.index in
    let small = c.requires in
    omega (arith, below, index, small)

pub overflow_add-index-in-Absent : goal.overflow_add-index-in-Absent
overflow_add-index-in-Absent c =
    let below = count_below c.args.names.now c.loop-run.run-index (Given (record { ref_ptr = (0, 0); now = [] })) (Absent c.in-Absent.count) c.in-Absent.count c.loop-run-test.true c.in-Absent.is (count_none c.in-Absent.count) in
    let index = c.loop-run.invariant.index in
    let small = c.requires in
    omega (arith, below, index, small)

pub loop-run-preserved : goal.loop-run-preserved
loop-run-preserved c =
    let runs = c.args.names.now in
    let i = c.loop-run.run-index in elim c.match-run.branch [
      | in-Given+in_ok-insert-in-Given+else-is_some w ↦
          let both =
          inserted_run runs i (Given (record { ref_ptr = (0, 0); now = [] })) w.in-Given.given c.loop-run.index c.loop-run.indices w.insert.new.self c.match-run.indices w.indices-is c.loop-run-test.true w.in-Given.is
          (ap is_some (sym (c.loop-run.invariant.are w.in-Given.given.now) ∙ sym w.in_ok-insert-in-Given.ensures.old) ∙ sym w.is_some.ensures ∙ w.if-is_some.false)
          c.loop-run.invariant.index w.in_ok-insert-in-Given.ensures.updates c.loop-run.invariant.are c.loop-run.invariant.distinct in record {
            are = both.0;
            distinct = both.1;
            index =
                w.index-is ∙ ap (λ k. k + 1) c.loop-run.invariant.index
                ∙ sym (count_to runs i (Given (record { ref_ptr = (0, 0); now = [] })) (Given w.in-Given.given) 1 c.loop-run-test.true w.in-Given.is refl);
          }
      | in-Absent w ↦
          let both =
          passed_run runs i (Given (record { ref_ptr = (0, 0); now = [] })) w.in-Absent.count c.loop-run.indices c.match-run.indices w.indices-is c.loop-run-test.true w.in-Absent.is c.loop-run.invariant.are c.loop-run.invariant.distinct in record {
            are = both.0;
            distinct = both.1;
            index =
                w.index-is ∙ ap (λ k. k + w.in-Absent.count) c.loop-run.invariant.index
                ∙ sym (count_to runs i (Given (record { ref_ptr = (0, 0); now = [] })) (Absent w.in-Absent.count) w.in-Absent.count c.loop-run-test.true w.in-Absent.is (count_none w.in-Absent.count));
          }
    ]
