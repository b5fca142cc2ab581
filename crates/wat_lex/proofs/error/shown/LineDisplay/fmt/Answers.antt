use Rattle.std.proofs.Common.{◌++◌, sym, ap, ◌∙◌, rules, append_assoc}
use Rattle.std.proofs.Output.{has_written_append}
use Rattle.wat_lex.specs.errors.Rendering.{rendered_line}
use Rattle.wat_lex.proofs.error.shown.LineDisplay.fmt.Goals as goal

pub loop-shown-preserved : goal.loop-shown-preserved
loop-shown-preserved g c = (
  (c.in-Some.ensures).2,
  λ plain.
      let so_far = c.loop-shown.invariant.1 plain in (
        so_far.0 ++ c.in-Some.shown.now,
        has_written_append _ _ _ _ _ _ so_far.1 (search rules),
        append_assoc so_far.0 c.in-Some.shown.now (rendered_line c.in-Some.after.now) ∙ ap (λ x. so_far.0 ++ x) (sym (c.in-Some.ensures).0) ∙ so_far.2,
      ),
)
