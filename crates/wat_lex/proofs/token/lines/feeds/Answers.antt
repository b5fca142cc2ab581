use Rattle.std.proofs.Common.{◌+◌, sym, subst, drop, Some, None}
use Rattle.std.proofs.lemmas.List.{take_rest}
use Rattle.memchr.specs.Find.{IsFirstByte, is_byte}
use Rattle.wat_lex.specs.errors.LineFeeds.{FeedsUpTo}
use Rattle.wat_lex.proofs.errors.LineFeeds.{feeds_start, feeds_more, feeds_end}
use Rattle.wat_lex.proofs.token.lines.feeds.Goals as goal

pub loop-ahead-init : goal.loop-ahead-init
loop-ahead-init c = subst (FeedsUpTo c.args.text.now 0) (sym c.new-feeds.ensures.items) (feeds_start c.args.text.now)

pub loop-ahead-preserved : goal.loop-ahead-preserved
loop-ahead-preserved c =
    let text = c.args.text.now in
    let at = c.loop-ahead.at in
    let ahead = c.in-Some.ahead in
    let found : IsFirstByte (is_byte 10) (drop at text) (Some ahead) =
    subst (λ s. IsFirstByte (is_byte 10) s (Some ahead)) (take_rest text at) c.in-Some.ensures in
    subst (FeedsUpTo text (at + (ahead + 1))) (sym c.in_ok-push.ensures.items) (feeds_more text c.loop-ahead.feeds.items at ahead c.loop-ahead.invariant found)

pub returns : goal.returns
returns c =
    let text = c.args.text.now in
    let at = c.loop-ahead.at in
    let none : IsFirstByte (is_byte 10) (drop at text) None =
    subst (λ s. IsFirstByte (is_byte 10) s None) (take_rest text at) c.in_default.ensures in
    feeds_end text c.loop-ahead.feeds.items at c.loop-ahead.invariant none
