use Rattle.std.proofs.Common.{◌≡◌, ◌≤◌, ◌<◌, ◌+◌, length, take, drop, arith, ◌∙◌, sym, subst, length-set, length-append, [], ◌∷◌}
use Rattle.std.specs.Prelude.{Some, None}
use Rattle.std.proofs.lemmas.List.{take_rest, take_more_set, length-take-le, drop-set-lt}
use Rattle.memchr.specs.Find.{IsFirstByte, is_byte}
use Rattle.wat_lex.specs.errors.LineFeeds.{FeedsUpTo, LineFeeds}
use Rattle.wat_lex.proofs.errors.LineFeeds.{feeds_more, feeds_end, feeds_fit, feeds_all}
use Rattle.wat_lex.proofs.token.lines.fill_line_feeds.Goals as goal
use Rattle.wat_lex.proofs.token.lines.fill_line_feeds.Goals.{In-Some}

found : (c : In-Some) → IsFirstByte (is_byte 10) (drop c.loop-ahead.at c.args.text.now) (Some c.in-Some.ahead)
found c = subst (λ s. IsFirstByte (is_byte 10) s (Some c.in-Some.ahead)) (take_rest c.args.text.now c.loop-ahead.at) c.in-Some.ensures

-- The buffer has capacity for one more offset.
room : (c : In-Some) → c.loop-ahead.done + 1 ≤ c.line_feeds-count.result
room c =
    let i = c.loop-ahead.invariant in
    let held : length (take c.loop-ahead.done c.loop-ahead.out) ≡ c.loop-ahead.done = length-take-le c.loop-ahead.done c.loop-ahead.out i.1 in
    let m = feeds_more c.args.text.now (take c.loop-ahead.done c.loop-ahead.out) c.loop-ahead.at c.in-Some.ahead i.0 (found c) in
    omega (arith, held, feeds_fit c.args.text.now _ _ m, c.line_feeds-count.ensures.count, length-append (take c.loop-ahead.done c.loop-ahead.out) ((c.loop-ahead.at + c.in-Some.ahead) ∷ []))

pub bounds-out-done : goal.bounds-out-done
bounds-out-done c = let i = c.loop-ahead.invariant in let r = room (goal.at.bounds-out-done c).In-Some in omega (arith, r, i.2, c.if-count-out.false)

pub loop-ahead-preserved : goal.loop-ahead-preserved
loop-ahead-preserved c =
    let i = c.loop-ahead.invariant in
    let out = c.loop-ahead.out in
    let done = c.loop-ahead.done in
    let at = c.loop-ahead.at + c.in-Some.ahead in
    let r = room (goal.at.loop-ahead-preserved c).In-Some in
    let size = length-set out done at in
    let inside : done < length out = omega (arith, r, i.2, c.if-count-out.false) in (
      subst (FeedsUpTo c.args.text.now (c.loop-ahead.at + (c.in-Some.ahead + 1))) (sym (take_more_set out done at inside))
          (feeds_more c.args.text.now (take done out) c.loop-ahead.at c.in-Some.ahead i.0 (found (goal.at.loop-ahead-preserved c).In-Some)),
      omega (arith, size, inside),
      size ∙ i.2,
      drop-set-lt c.line_feeds-count.result out done at (omega (arith, r)) ∙ i.3,
    )

pub returns-clause-filled : goal.returns-clause-filled
returns-clause-filled c =
    let i = c.loop-ahead.invariant in
    let text = c.args.text.now in
    let none : IsFirstByte (is_byte 10) (drop c.loop-ahead.at text) None = subst (λ s. IsFirstByte (is_byte 10) s None) (take_rest text c.loop-ahead.at) c.in_default.ensures in
    let all = feeds_end text (take c.loop-ahead.done c.loop-ahead.out) c.loop-ahead.at i.0 none in
    let same : c.loop-ahead.done ≡ c.line_feeds-count.result = sym (length-take-le c.loop-ahead.done c.loop-ahead.out i.1) ∙ feeds_all text (take c.loop-ahead.done c.loop-ahead.out) all ∙ sym c.line_feeds-count.ensures.count in
    λ _. subst (λ n. LineFeeds text (take n c.loop-ahead.out)) same all
