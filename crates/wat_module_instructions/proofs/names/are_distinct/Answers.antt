use Rattle.std.proofs.Common.{◌∙◌, ◌+◌, [], ap, drop, sym}
use Rattle.std.proofs.lemmas.List.{take_rest}
use Rattle.wat_module_ast.specs.Names.{are_distinct, has_name}
use Rattle.wat_module_instructions.specs.Indices.{labels_of}
use Rattle.wat_module_instructions.specs.declared.names.NameRun.TheVariants.{Absent, Given}
use Rattle.wat_module_instructions.proofs.NameRuns.{distinct_none, distinct_other, from_run}
use Rattle.wat_module_instructions.proofs.names.are_distinct.Goals.{in-Given+else-has_name, in_default}
use Rattle.wat_module_instructions.proofs.names.are_distinct.Goals as goal

pub loop-i-preserved : goal.loop-i-preserved
loop-i-preserved c =
    let runs = c.args.names.now in
    let i = c.loop-i.i in
    let rest = labels_of (drop (i + 1) runs) in elim c.match-run.branch [
      | in-Given+else-has_name w ↦
          c.loop-i.invariant
          ∙ ap are_distinct (from_run runs i (Given (record { ref_ptr = (0, 0); now = [] })) (Given w.in-Given.given) c.loop-i-test.true w.in-Given.is)
          ∙ distinct_other w.in-Given.given.now rest (ap (λ rs. has_name w.in-Given.given.now (labels_of rs)) (sym (take_rest runs (i + 1))) ∙ sym w.has_name.ensures ∙ w.if-has_name.false)
      | in_default w ↦
          c.loop-i.invariant
          ∙ ap are_distinct (from_run runs i (Given (record { ref_ptr = (0, 0); now = [] })) (Absent w.in_default.field-0) c.loop-i-test.true w.in_default.is)
          ∙ distinct_none w.in_default.field-0 rest
    ]
