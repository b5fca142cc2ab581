use Rattle.std.proofs.Common.{◌≡◌, ◌∙◌, ◌+◌, Bool, Some, None, suc, take, ap, arith}
use Rattle.std.specs.Prelude.{if◌then◌else◌}
use Rattle.wat_valid.specs.Algorithm.{run}
use Rattle.wat_valid.specs.ContextViews.{body_context}
use Rattle.wat_valid.specs.FrameViews.{frames_of}
use Rattle.wat_valid.proofs.Bodies.{one_on, start, stops}
use Rattle.wat_valid.proofs.accepting.frames_after.Goals as goal

pub returns-then-not-branch-clause-is : goal.returns-then-not-branch-clause-is
returns-then-not-branch-clause-is c =
    stops (body_context c.args.context.now) c.args.context.now.results.now c.args.instructions.now c.loop-i.i _ c.index-instructions-i.result (frames_of c.loop-i.frames) c.loop-i-test.true c.index-instructions-i.is c.loop-i.invariant.reached
    (c.in_ok-step.ensures.is ∙ ap (λ (b : Bool). if b then Some (frames_of c.step.new.frames) else None) c.if-not-branch.true)

pub loop-i-preserved : goal.loop-i-preserved
loop-i-preserved c =
    let C = body_context c.args.context.now in
    let results = c.args.context.now.results.now in
    let is = c.args.instructions.now in
    let next : c.loop-i.i + 1 ≡ suc c.loop-i.i = omega arith in
    record {
      labels = c.in_ok-step.ensures.labels c.if-not-branch.false;
      reached = ap (λ n. run C (start results) (take n is)) next ∙ one_on C results is c.loop-i.i _ c.index-instructions-i.result (frames_of c.loop-i.frames) (Some (frames_of c.step.new.frames)) c.loop-i-test.true c.index-instructions-i.is c.loop-i.invariant.reached (c.in_ok-step.ensures.is ∙ ap (λ (b : Bool). if b then Some (frames_of c.step.new.frames) else None) c.if-not-branch.false);
    }
