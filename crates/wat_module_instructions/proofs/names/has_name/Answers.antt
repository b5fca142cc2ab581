use Rattle.std.proofs.Common.{◌∙◌, ◌+◌, ap, drop, sym, []}
use Rattle.wat_module_ast.specs.Names.{has_name}
use Rattle.wat_module_instructions.specs.Indices.{labels_of}
use Rattle.wat_module_instructions.specs.declared.names.NameRun.TheVariants.{Absent, Given}
use Rattle.wat_module_instructions.proofs.NameRuns.{from_run, has_none, has_other}
use Rattle.wat_module_instructions.proofs.names.has_name.Goals.{in-Given+else-eq, in_default}
use Rattle.wat_module_instructions.proofs.names.has_name.Goals as goal

pub loop-run-preserved : goal.loop-run-preserved
loop-run-preserved c = elim c.match-run.branch [
  | in-Given+else-eq w ↦
      c.loop-run.invariant
      ∙ ap (has_name c.args.name.now) (from_run c.args.names.now c.loop-run.run-index (Given (record { ref_ptr = (0, 0); now = [] })) (Given w.in-Given.given) c.loop-run-test.true w.in-Given.is)
      ∙ has_other c.args.name.now w.in-Given.given.now (labels_of (drop (c.loop-run.run-index + 1) c.args.names.now)) (sym w.eq.ensures ∙ w.if-eq.false)
  | in_default w ↦
      c.loop-run.invariant
      ∙ ap (has_name c.args.name.now) (from_run c.args.names.now c.loop-run.run-index (Given (record { ref_ptr = (0, 0); now = [] })) (Absent w.in_default.field-0) c.loop-run-test.true w.in_default.is)
      ∙ has_none w.in_default.field-0 c.args.name.now (labels_of (drop (c.loop-run.run-index + 1) c.args.names.now))
]
