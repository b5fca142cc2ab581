use Rattle.std.proofs.Common.{◌≡◌, ◌+◌, ◌-◌, length, take, drop, ap, ◌∙◌, arith}
use Rattle.std.specs.List.{count_by}
use Rattle.std.specs.Simd.Lanes.{chunk}
use Rattle.std.specs.Prelude.{count_ones}
use Rattle.std.proofs.lemmas.List.{take_rest}
use Rattle.std.proofs.lemmas.List.Sums.{count_by-le-length}
use Rattle.std.proofs.lemmas.Simd.{ones-mask_l}
use Rattle.memchr.specs.Find.{is_byte}
use Rattle.memchr.proofs.lemmas.CallerLemmas.{length-places}
use Rattle.wat_lex.specs.errors.Positions.{is_line_feed}
use Rattle.wat_lex.proofs.errors.LineFeeds.{count_chunk}
use Rattle.wat_lex.proofs.token.lines.line_feeds.Goals as goal
use Rattle.wat_lex.proofs.token.lines.line_feeds.Goals.{After-feeds_in_block, After-count}

counted : (c : After-feeds_in_block) → count_ones c.feeds_in_block.result ≡ count_by is_line_feed (chunk c.loop-i.i 16 c.args.text.now)
counted c = ap count_ones c.feeds_in_block.ensures ∙ ones-mask_l is_line_feed c.block_at.result ∙ ap (count_by is_line_feed) c.block_at.ensures

more : (c : After-feeds_in_block) → c.loop-i.count + count_ones c.feeds_in_block.result + count_by is_line_feed (drop (c.loop-i.i + 16) c.args.text.now) ≡ count_by is_line_feed c.args.text.now
more c = omega (arith, counted c, count_chunk c.args.text.now c.loop-i.i 16, c.loop-i.invariant.so_far)

pub overflow_add-count : goal.overflow_add-count
overflow_add-count c = record { fits = omega (arith, more ((goal.at.overflow_add-count c).After-feeds_in_block), count_by-le-length is_line_feed c.args.text.now) }

pub loop-i-preserved : goal.loop-i-preserved
loop-i-preserved c = record { range = omega arith; so_far = more ((goal.at.loop-i-preserved c).After-feeds_in_block) }

after : (c : After-count) → c.loop-i.count + c.count.result ≡ count_by is_line_feed c.args.text.now
after c =
    let rest = take (length c.args.text.now - c.loop-i.i) (drop c.loop-i.i c.args.text.now) in
    let tail : c.count.result ≡ count_by is_line_feed rest = c.count.ensures ∙ ap length c.memchr_iter.ensures.value ∙ length-places (is_byte 10) rest in
    let same : count_by is_line_feed rest ≡ count_by is_line_feed (drop c.loop-i.i c.args.text.now) = ap (count_by is_line_feed) (take_rest c.args.text.now c.loop-i.i) in
    omega (arith, tail, same, c.loop-i.invariant.so_far)

pub returns-clause-count : goal.returns-clause-count
returns-clause-count c = after ((goal.at.returns-clause-count c).After-count)

pub returns-clause-bound : goal.returns-clause-bound
returns-clause-bound c = omega (arith, after ((goal.at.returns-clause-bound c).After-count), count_by-le-length is_line_feed c.args.text.now)
