use Rattle.std.proofs.Common.{◌≡◌, ◌<◌, ◌+◌, ◌-◌, ◌^◌, ◌∙◌, ap, length, take, drop, arith, rules}
use Rattle.std.proofs.lemmas.List.{length-append}
use Rattle.std.specs.List.{sum_by}
use Rattle.wat_lex.specs.inside.Utf16Bytes.{byte_units}
use Rattle.wat_lex.proofs.errors.Utf16.{one_mark_more, total_more, total_take_bound}
use Rattle.wat_lex.proofs.token.lines.units_at_marks.Goals as goal
use Rattle.wat_lex.proofs.token.lines.units_at_marks.Goals.{After-units-before}

so_far : (c : After-units-before) → c.loop-at.before + c.units-before.result ≡ sum_by byte_units (take (c.loop-at.at + 65536) c.args.text.now)
so_far c =
    let block : c.loop-at.at + 65536 - c.loop-at.at ≡ 65536 = omega arith in
    let more : c.units-before.result ≡ sum_by byte_units (take 65536 (drop c.loop-at.at c.args.text.now)) = c.units-before.ensures.count ∙ ap (λ n. sum_by byte_units (take n (drop c.loop-at.at c.args.text.now))) block in
    omega (arith, more, c.loop-at.invariant.3, total_more c.args.text.now c.loop-at.at 65536)

pub overflow_add-before : goal.overflow_add-before
overflow_add-before c =
    let text = c.args.text.now in
    let small : length text < 2 ^ 63 = search rules in
    record { fits = omega (arith, small, so_far c, total_take_bound text (c.loop-at.at + 65536)) }

pub loop-at-preserved : goal.loop-at-preserved
loop-at-preserved c =
    let long : length c.push.new.self.items ≡ length c.loop-at.marks.items + 1 = ap length c.in_ok-push.ensures.items ∙ length-append c.loop-at.marks.items _ in (
      omega (arith, long, c.loop-at.invariant.0),
      omega (arith, c.loop-at-test.true),
      one_mark_more c.args.text.now c.loop-at.marks.items c.push.new.self.items c.loop-at.at c.loop-at.before c.loop-at.invariant.0 c.loop-at.invariant.2 c.loop-at.invariant.3 c.in_ok-push.ensures.items,
      so_far c,
    )
