use Rattle.std.proofs.Common.{refl, sym, ◌∙◌, ap}
use Rattle.wat_c.specs.Numbers.{bits_known}
use Rattle.wat_c.proofs.Bits.{written, known_none, known_no_half, known_too_big, known_in_bits}
use Rattle.wat_c.proofs.numbers.integer_of.Goals as goal

pub returns-then-row-ne-INTEGER : goal.returns-then-row-ne-INTEGER
returns-then-row-ne-INTEGER c = c.refused.ensures ∙ sym (known_none c.args.text.now c.args.row c.args.bits c.args.is_signed c.requires c.if-row-ne-INTEGER.true)

pub returns-in_default : goal.returns-in_default
returns-in_default c =
    c.refused-in_default.ensures
    ∙ sym (known_no_half c.args.text.now c.args.row c.args.bits c.args.is_signed c.if-row-ne-INTEGER.false (written c.args.text.now c.args.row) refl (sym c.half_range.ensures.value ∙ c.in_default.is))

pub returns-in_default-magnitude : goal.returns-in_default-magnitude
returns-in_default-magnitude c =
    c.refused-in_default-magnitude.ensures
    ∙ sym (known_too_big c.args.text.now c.args.row c.args.bits c.args.is_signed c.if-row-ne-INTEGER.false c.digits.result.now c.digits.ensures.digits c.in-Some.half
    (sym c.half_range.ensures.value ∙ c.in-Some.is) c.in-Some.ensures.bound c.in_default-magnitude.ensures)

pub returns-in-None : goal.returns-in-None
returns-in-None c =
    c.refused-in-None.ensures ∙ ap bits_known (sym c.in-None.is)
    ∙ sym (known_in_bits c.args.text.now c.args.row c.args.bits c.args.is_signed c.if-row-ne-INTEGER.false c.digits.result.now c.digits.ensures.digits c.in-Some.half
    c.in-Some-magnitude.magnitude c.wrap_to_bits.result (sym c.half_range.ensures.value ∙ c.in-Some.is) c.in-Some-magnitude.ensures c.wrap_to_bits.ensures)

pub returns-in-Some-wrap_to_bits : goal.returns-in-Some-wrap_to_bits
returns-in-Some-wrap_to_bits c =
    ap bits_known (sym c.in-Some-wrap_to_bits.is)
    ∙ sym (known_in_bits c.args.text.now c.args.row c.args.bits c.args.is_signed c.if-row-ne-INTEGER.false c.digits.result.now c.digits.ensures.digits c.in-Some.half
    c.in-Some-magnitude.magnitude c.wrap_to_bits.result (sym c.half_range.ensures.value ∙ c.in-Some.is) c.in-Some-magnitude.ensures c.wrap_to_bits.ensures)
