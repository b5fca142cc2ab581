use Rattle.std.proofs.Common.{◌≡◌, ◌-◌, length, take, drop, ap, sym, refl, ◌∙◌, subst, arith}
use Rattle.wat_lex.specs.grammar.Numbers.{Tail, unsigned}
use Rattle.wat_lex.specs.values.NumberValues.{after_prefix}
use Rattle.wat_c.specs.inside.SplitFloats.{SplitsFraction}
use Rattle.wat_c.proofs.FloatSplits.{split_of, tail_of, prefixed, fraction_fits, exponent_fits}
use Rattle.wat_c.proofs.FloatRanges.{ranged, parts_known}
use Rattle.wat_c.proofs.float_parts.decimal_parts.Goals as goal

pub after_prefix-digits-requires : goal.after_prefix-digits-requires
after_prefix-digits-requires c = prefixed c.args.hex c.args.word.now c.unsigned.result.now c.unsigned.ensures c.requires.number

pub slice_bounds-tail-count : goal.slice_bounds-tail-count
slice_bounds-tail-count c =
    let hex = c.args.hex in
    let w = c.args.word.now in
    let d = c.after_prefix-digits.result.now in
    let n = c.digits_len-integral.result in
    let b : d ≡ after_prefix hex (unsigned w) = c.after_prefix-digits.ensures ∙ ap (after_prefix hex) c.unsigned.ensures in
    let s = split_of hex w d n c.requires.number b c.digits_len-integral.ensures in
    let fits = s.fits in
    omega (arith, fits, ap length b)

pub slice_bounds-tail-start : goal.slice_bounds-tail-start
slice_bounds-tail-start c =
    let hex = c.args.hex in
    let w = c.args.word.now in
    let d = c.after_prefix-digits.result.now in
    let n = c.digits_len-integral.result in
    let b : d ≡ after_prefix hex (unsigned w) = c.after_prefix-digits.ensures ∙ ap (after_prefix hex) c.unsigned.ensures in
    let s = split_of hex w d n c.requires.number b c.digits_len-integral.ensures in
    let fits = s.fits in
    omega (arith, fits, ap length b)

pub split_fraction-fraction-requires : goal.split_fraction-fraction-requires
split_fraction-fraction-requires c =
    let hex = c.args.hex in
    let w = c.args.word.now in
    let d = c.after_prefix-digits.result.now in
    let n = c.digits_len-integral.result in
    let b : d ≡ after_prefix hex (unsigned w) = c.after_prefix-digits.ensures ∙ ap (after_prefix hex) c.unsigned.ensures in
    let s = split_of hex w d n c.requires.number b c.digits_len-integral.ensures in
    let tail = tail_of hex w d n s b in
    subst (Tail hex) (sym tail) s.is

pub before-requires : goal.before-requires
before-requires c =
    let hex = c.args.hex in
    let w = c.args.word.now in
    let d = c.after_prefix-digits.result.now in
    let n = c.digits_len-integral.result in
    let b : d ≡ after_prefix hex (unsigned w) = c.after_prefix-digits.ensures ∙ ap (after_prefix hex) c.unsigned.ensures in
    let s = split_of hex w d n c.requires.number b c.digits_len-integral.ensures in
    let tail = tail_of hex w d n s b in
    let room = s.room in
    omega (arith, room, ap length tail, c.requires.fits)

pub overflow_cast-power : goal.overflow_cast-power
overflow_cast-power c =
    let hex = c.args.hex in
    let w = c.args.word.now in
    let d = c.after_prefix-digits.result.now in
    let n = c.digits_len-integral.result in
    let b : d ≡ after_prefix hex (unsigned w) = c.after_prefix-digits.ensures ∙ ap (after_prefix hex) c.unsigned.ensures in
    let s = split_of hex w d n c.requires.number b c.digits_len-integral.ensures in
    let tail = tail_of hex w d n s b in
    let room = s.room in
    let m = c.split_fraction-fraction.result.0 in
    let r = c.split_fraction-fraction.result.1.now in
    let split = subst (λ t. SplitsFraction hex t m r) tail c.split_fraction-fraction.ensures in
    let within = fraction_fits hex s.tail m r split in
    record { fits = omega (arith, room, within, c.requires.fits, c.ranges.end.fits) }

pub overflow_sub-end-2 : goal.overflow_sub-end-2
overflow_sub-end-2 c =
    let hex = c.args.hex in
    let w = c.args.word.now in
    let d = c.after_prefix-digits.result.now in
    let n = c.digits_len-integral.result in
    let b : d ≡ after_prefix hex (unsigned w) = c.after_prefix-digits.ensures ∙ ap (after_prefix hex) c.unsigned.ensures in
    let s = split_of hex w d n c.requires.number b c.digits_len-integral.ensures in
    let tail = tail_of hex w d n s b in
    let room = s.room in
    let m = c.split_fraction-fraction.result.0 in
    let r = c.split_fraction-fraction.result.1.now in
    let split = subst (λ t. SplitsFraction hex t m r) tail c.split_fraction-fraction.ensures in
    let within = fraction_fits hex s.tail m r split in
    omega (arith, room, within, c.requires.fits)

pub before-requires-2 : goal.before-requires-2
before-requires-2 c =
    let hex = c.args.hex in
    let w = c.args.word.now in
    let d = c.after_prefix-digits.result.now in
    let n = c.digits_len-integral.result in
    let b : d ≡ after_prefix hex (unsigned w) = c.after_prefix-digits.ensures ∙ ap (after_prefix hex) c.unsigned.ensures in
    let s = split_of hex w d n c.requires.number b c.digits_len-integral.ensures in
    let tail = tail_of hex w d n s b in
    let room = s.room in
    let m = c.split_fraction-fraction.result.0 in
    let r = c.split_fraction-fraction.result.1.now in
    let split = subst (λ t. SplitsFraction hex t m r) tail c.split_fraction-fraction.ensures in
    let within = fraction_fits hex s.tail m r split in
    omega (arith, room, within, c.requires.fits)

pub before-requires-3 : goal.before-requires-3
before-requires-3 c =
    let hex = c.args.hex in
    let w = c.args.word.now in
    let d = c.after_prefix-digits.result.now in
    let n = c.digits_len-integral.result in
    let b : d ≡ after_prefix hex (unsigned w) = c.after_prefix-digits.ensures ∙ ap (after_prefix hex) c.unsigned.ensures in
    let s = split_of hex w d n c.requires.number b c.digits_len-integral.ensures in
    let tail = tail_of hex w d n s b in
    let room = s.room in
    let m = c.split_fraction-fraction.result.0 in
    let r = c.split_fraction-fraction.result.1.now in
    let split = subst (λ t. SplitsFraction hex t m r) tail c.split_fraction-fraction.ensures in
    let within = fraction_fits hex s.tail m r split in
    omega (arith, room, within, c.requires.fits, c.exponent_len.ensures, exponent_fits r)

pub returns : goal.returns
returns c =
    let hex = c.args.hex in
    let w = c.args.word.now in
    let d = c.after_prefix-digits.result.now in
    let n = c.digits_len-integral.result in
    let b : d ≡ after_prefix hex (unsigned w) = c.after_prefix-digits.ensures ∙ ap (after_prefix hex) c.unsigned.ensures in
    let s = split_of hex w d n c.requires.number b c.digits_len-integral.ensures in
    let tail = tail_of hex w d n s b in
    let m = c.split_fraction-fraction.result.0 in
    let r = c.split_fraction-fraction.result.1.now in
    let split = subst (λ t. SplitsFraction hex t m r) tail c.split_fraction-fraction.ensures in
    let rest : c.args.end - length (take (length d - n) (drop n d)) ≡ c.args.end - length s.tail = ap (λ t. c.args.end - length t) tail in
    let integral = ranged _ _ n n c.before-2.result rest refl (record { none = c.before-2.ensures.none; some = c.before-2.ensures.some }) in
    let exponent = ranged c.args.end c.args.end _ _ c.before-4.result refl c.exponent_len.ensures (record { none = c.before-4.ensures.none; some = c.before-4.ensures.some }) in
    parts_known hex w c.args.end n m r _ s split c.requires.fits integral (record { none = c.before-3.ensures.none; some = c.before-3.ensures.some }) exponent refl c.is_negative.ensures refl
