use Rattle.std.proofs.Common.{◌≡◌, ◌∙◌, length, map, reverse, sym, arith}
use Rattle.wat_valid.specs.ContextViews.{body_context}
use Rattle.wat_valid.specs.FrameViews.{frame_of, frames_of}
use Rattle.wat_valid.proofs.Bodies.{error_at, error_at_end, innermost, is_valid, outer_count, ran, still_open, stopped, unfinished}
use Rattle.wat_valid.proofs.accepting.check_body.Goals as goal
use Rattle.wat_valid.proofs.accepting.check_body.Goals.{else-is_empty-via-then-is_empty+else-finish, else-is_empty-via-else-is_empty}

pub returns-in-Err : goal.returns-in-Err
returns-in-Err c =
    let C = body_context c.args.context.now in
    let results = c.args.context.now.results.now in
    let is = c.args.instructions.now in
    error_at C is results c.in-Err.at (stopped C is results c.in_ok-at.field-0 c.in-Err.at c.in-Err.is c.in_ok-at.ensures.is)

pub returns-then-finish : goal.returns-then-finish
returns-then-finish c =
    let C = body_context c.args.context.now in
    let results = c.args.context.now.results.now in
    let is = c.args.instructions.now in
    let outer = c.in-Ok.frames.outer.items in
    let count : length (reverse (map frame_of outer)) ≡ c.in-Ok.frames.outer.len = let k = outer_count outer in omega (arith, k, c.in-Ok.frames.outer.ok.0) in
    is_valid C is results (frames_of c.in-Ok.frames) (ran C is results c.in_ok-at.field-0 c.in-Ok.frames c.in-Ok.is c.in_ok-at.ensures.is)
    (innermost (frame_of c.in-Ok.frames.current) (reverse (map frame_of outer)) c.is_empty.result c.in-Ok.frames.outer.len c.is_empty.ensures count c.if-is_empty.true ∙ sym c.finish.ensures.is ∙ c.if-finish.true)

pub returns : goal.returns
returns c =
    let C = body_context c.args.context.now in
    let results = c.args.context.now.results.now in
    let is = c.args.instructions.now in
    let outer = c.in-Ok.frames.outer.items in
    let count : length (reverse (map frame_of outer)) ≡ c.in-Ok.frames.outer.len = let k = outer_count outer in omega (arith, k, c.in-Ok.frames.outer.ok.0) in
    let reached = ran C is results c.in_ok-at.field-0 c.in-Ok.frames c.in-Ok.is c.in_ok-at.ensures.is in
    elim c.else-is_empty.branch [
      | else-is_empty-via-then-is_empty+else-finish w ↦ error_at_end C is results (frames_of c.in-Ok.frames) reached (unfinished (frame_of c.in-Ok.frames.current) (reverse (map frame_of outer)) (sym w.finish.ensures.is ∙ w.if-finish.false))
      | else-is_empty-via-else-is_empty w ↦ error_at_end C is results (frames_of c.in-Ok.frames) reached (still_open (frame_of c.in-Ok.frames.current) (reverse (map frame_of outer)) c.is_empty.result c.in-Ok.frames.outer.len c.is_empty.ensures count w.if-is_empty.false)
    ]
