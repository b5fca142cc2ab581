use Rattle.std.proofs.Common.{◌≡◌, Some, [], ◌∷◌, take}
use Rattle.wat_valid.specs.Algorithm as algorithm
use Rattle.wat_valid.specs.ContextViews.{body_context}
use Rattle.wat_valid.specs.FrameViews.{HasLabels, frames_of}
use Rattle.wat_valid.proofs.accepting.frames_after.Given as goal

abbrev pub invariant-loop-i : goal.invariant-loop-i
invariant-loop-i l = record {
  labels : HasLabels l.frames;
  reached : algorithm.run (body_context l.context) (Some (algorithm.body_frame l.context.results.now ∷ [])) (take l.i l.instructions) ≡ Some (frames_of l.frames);
}
