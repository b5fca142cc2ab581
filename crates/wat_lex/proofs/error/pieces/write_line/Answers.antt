use Rattle.std.proofs.Common.{◌++◌, sym, ap, ◌∙◌, append_assoc, refl}
use Rattle.wat_lex.specs.errors.Rendering.{rendered_line}
use Rattle.wat_lex.proofs.errors.Laying.{lays_then}
use Rattle.wat_lex.proofs.error.pieces.write_line.Goals as goal

pub loop-shown-preserved : goal.loop-shown-preserved
loop-shown-preserved c =
    let so_far = c.loop-shown.invariant in (
      so_far.0 ++ c.in-Some.shown.now,
      lays_then _ _ _ _ _ _ _ _ _ so_far.1 c.lay-at.ensures refl,
      append_assoc so_far.0 c.in-Some.shown.now (rendered_line c.in-Some.after.now) ∙ ap (λ x. so_far.0 ++ x) (sym (c.in-Some.ensures).0) ∙ so_far.2,
      (c.in-Some.ensures).2,
    )
