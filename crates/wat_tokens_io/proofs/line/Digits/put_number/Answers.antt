use Rattle.std.proofs.Common.{◌≡◌, ◌++◌, ◌/◌, ◌%◌, length, arith, ap, sym, ◌∙◌, append_assoc, length-append}
use Rattle.std.specs.Fmt.{decimal}
use Rattle.std.proofs.lemmas.Fmt.{decimal_digit}
use Rattle.wat_tokens_io.proofs.Decimals.{decimal_below_100, decimal_from_100, pair, rest_fits}
use Rattle.wat_tokens_io.proofs.line.Digits.put_number.Goals as goal

pub put-requires : goal.put-requires
put-requires c =
    let l = c.loop-rest in
    let fits = rest_fits c.args.number l.rest l.self c.args.self.now c.requires.short l.invariant in
    let two = simp length-append at (ap length (decimal_from_100 l.rest c.loop-rest-test.true l.auto.rest-fits.fits)) in
    rw c.two_digits.ensures (omega (arith, fits, two))

pub loop-rest-preserved : goal.loop-rest-preserved
loop-rest-preserved c =
    let l = c.loop-rest in
    let digits : c.put.new.self ≡ pair (l.rest % 100) ++ l.self = c.put.ensures.bytes ∙ ap (λ d. d ++ l.self) c.two_digits.ensures in
    let split = decimal_from_100 l.rest c.loop-rest-test.true l.auto.rest-fits.fits in
    rw digits (sym (append_assoc (decimal (l.rest / 100)) (pair (l.rest % 100)) l.self) ∙ ap (λ d. d ++ l.self) (sym split) ∙ l.invariant)

pub put-requires-then-rest-ge10 : goal.put-requires-then-rest-ge10
put-requires-then-rest-ge10 c =
    let l = c.loop-rest in
    let fits = rest_fits c.args.number l.rest l.self c.args.self.now c.requires.short l.invariant in
    let two = ap length (decimal_below_100 l.rest c.if-rest-ge10.true c.loop-rest-test.false) in
    rw c.two_digits-then-rest-ge10.ensures (omega (arith, fits, two))

pub put-requires-else-rest-ge10 : goal.put-requires-else-rest-ge10
put-requires-else-rest-ge10 c =
    let l = c.loop-rest in
    let fits = rest_fits c.args.number l.rest l.self c.args.self.now c.requires.short l.invariant in
    omega (arith, fits, ap length (decimal_digit l.rest c.if-rest-ge10.false))

pub returns-then-rest-ge10 : goal.returns-then-rest-ge10
returns-then-rest-ge10 c =
    let l = c.loop-rest in
    let digits = c.two_digits-then-rest-ge10.ensures ∙ sym (decimal_below_100 l.rest c.if-rest-ge10.true c.loop-rest-test.false) in
    let fits = rest_fits c.args.number l.rest l.self c.args.self.now c.requires.short l.invariant in
    record {
      digits = c.put-then-rest-ge10.ensures.bytes ∙ ap (λ d. d ++ l.self) digits ∙ l.invariant;
      len = omega (arith, c.put-then-rest-ge10.ensures.len, ap length digits, fits);
    }

pub returns-else-rest-ge10 : goal.returns-else-rest-ge10
returns-else-rest-ge10 c =
    let l = c.loop-rest in
    let digit = sym (decimal_digit l.rest c.if-rest-ge10.false) in
    let fits = rest_fits c.args.number l.rest l.self c.args.self.now c.requires.short l.invariant in
    record {
      digits = c.put-else-rest-ge10.ensures.bytes ∙ ap (λ d. d ++ l.self) digit ∙ l.invariant;
      len = omega (arith, c.put-else-rest-ge10.ensures.len, ap length digit, fits);
    }
