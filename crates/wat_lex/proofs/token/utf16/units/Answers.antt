use Rattle.std.proofs.Common.{◌≡◌, ◌<◌, ◌+◌, ◌^◌, length, drop, arith, rules, ap, ◌∙◌}
use Rattle.std.specs.Fmt.{is_char_start}
use Rattle.std.specs.List.{count_by, sum_by}
use Rattle.std.specs.Simd.Lanes.{chunk}
use Rattle.std.specs.Prelude.{count_ones}
use Rattle.std.proofs.lemmas.List.{take_rest}
use Rattle.std.proofs.lemmas.Simd.{ones-mask_l}
use Rattle.wat_lex.specs.inside.Utf16Bytes.{begins_pair, byte_units}
use Rattle.wat_lex.proofs.errors.Utf16.{both_counts, total_chunk, total_bound}
use Rattle.wat_lex.proofs.token.utf16.units.Goals as goal
use Rattle.wat_lex.proofs.token.utf16.units.Goals.{After-starts_in_block, After-pairs_in_block, After-units_by_byte}

starts : (c : After-starts_in_block) → count_ones c.starts_in_block.result ≡ count_by is_char_start (chunk c.loop-i.i 16 c.args.text.now)
starts c = ap count_ones c.starts_in_block.ensures ∙ ones-mask_l is_char_start c.block_at-block.result ∙ ap (count_by is_char_start) c.block_at-block.ensures

pairs : (c : After-pairs_in_block) → count_ones c.pairs_in_block.result ≡ count_by begins_pair (chunk c.loop-i.i 16 c.args.text.now)
pairs c = ap count_ones c.pairs_in_block.ensures ∙ ones-mask_l begins_pair c.block_at-block.result ∙ ap (count_by begins_pair) c.block_at-block.ensures

pub overflow_add-units : goal.overflow_add-units
overflow_add-units c =
    let text = c.args.text.now in
    let small : length text < 2 ^ 63 = search rules in
    record { fits = omega (arith, small, starts c, both_counts (chunk c.loop-i.i 16 text), total_chunk text c.loop-i.i 16, c.loop-i.invariant.so_far, total_bound text) }

more : (c : After-pairs_in_block) → c.loop-i.units + count_ones c.starts_in_block.result + count_ones c.pairs_in_block.result + sum_by byte_units (drop (c.loop-i.i + 16) c.args.text.now) ≡ sum_by byte_units c.args.text.now
more c =
    let text = c.args.text.now in
    omega (arith, starts (goal.at.overflow_add-units-in-loop-i c).After-starts_in_block, pairs c, both_counts (chunk c.loop-i.i 16 text), total_chunk text c.loop-i.i 16, c.loop-i.invariant.so_far)

pub overflow_add-units-in-loop-i : goal.overflow_add-units-in-loop-i
overflow_add-units-in-loop-i c =
    let text = c.args.text.now in
    let small : length text < 2 ^ 63 = search rules in
    record { fits = omega (arith, small, more c, total_bound text) }

pub loop-i-preserved : goal.loop-i-preserved
loop-i-preserved c = record { range = omega arith; so_far = more c }

all : (c : After-units_by_byte) → c.loop-i.units + c.units_by_byte.result ≡ sum_by byte_units c.args.text.now
all c =
    let same = ap (sum_by byte_units) (take_rest c.args.text.now c.loop-i.i) in
    omega (arith, c.units_by_byte.ensures.count, same, c.loop-i.invariant.so_far)

pub overflow_add-result : goal.overflow_add-result
overflow_add-result c =
    let text = c.args.text.now in
    let small : length text < 2 ^ 63 = search rules in
    record { fits = omega (arith, small, all c, total_bound text) }

pub returns-clause-count : goal.returns-clause-count
returns-clause-count c = all c

pub returns-clause-bound : goal.returns-clause-bound
returns-clause-bound c = omega (arith, all c, total_bound c.args.text.now)
