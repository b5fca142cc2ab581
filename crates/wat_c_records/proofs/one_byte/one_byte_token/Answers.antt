use Rattle.std.proofs.Common.{◌≡◌, ◌<◌, ◌+◌, ◌∙◌, length, get_or, ap, sym, arith}
use Rattle.std.specs.Int.Bits.{bit_and}
use Rattle.wat_c_records.specs.inside.OneByte.{sorts, blocking_classes}
use Rattle.wat_c_records.proofs.OneByte.{is_at_alone}
use Rattle.wat_c_records.proofs.one_byte.one_byte_token.Goals as goal

pub returns-then-blocking_classes-sorts-eq0 : goal.returns-then-blocking_classes-sorts-eq0
returns-then-blocking_classes-sorts-eq0 c =
    let at = c.args.at in
    let bytes = c.as_bytes-bytes.result.now in
    let same = c.as_bytes-bytes.ensures.value in
    let inside : at < length c.args.text.now = omega (arith, c.if-at-bytes.true, ap length same) in
    let known : bit_and (blocking_classes (get_or bytes at 0)) (sorts (get_or bytes (at + 1) 0)) ≡ 0 =
    sym (ap (λ x. bit_and x c.sorts.result) c.blocking_classes.ensures ∙ ap (bit_and (blocking_classes (get_or bytes at 0))) c.sorts.ensures)
    ∙ c.if-blocking_classes-sorts-eq0.true in
    record {
      byte = get_or bytes at 0;
      is_at = is_at_alone c.args.text.now at (get_or bytes at 0) (get_or bytes (at + 1) 0) c.utf8.text c.requires.boundary inside
          (ap (λ x. get_or x at 0) (sym same)) (ap (λ x. get_or x (at + 1) 0) (sym same)) known;
      known = c.row_alone.ensures;
    }
