use Rattle.std.proofs.Common.{◌≡◌, ◌∙◌, ◌≤◌, ◌^◌, ◌+◌, drop, sym, subst, ℕ}
use Rattle.std.specs.Prelude.{MatchOption, Option}
use Rattle.std.specs.Str.Parse.{digits_value, digits_value_after}
use Rattle.wat_lex.specs.values.NumberValues.{base, joined}
use Rattle.wat_lex.proofs.values.Magnitudes.{next_digit, too_many, no_digit, all_digits}
use Rattle.wat_lex.proofs.lexer.read.numbers.magnitude.Goals as goal
use Rattle.wat_lex.proofs.lexer.read.numbers.magnitude.Goals.{then-byte-ne95+in_ok-value, else-byte-ne95}

pub loop-byte-preserved : goal.loop-byte-preserved
loop-byte-preserved c =
    let total = digits_value (base c.args.hex) (joined c.args.digits.now) in
    let known = c.loop-byte.invariant in
    elim c.if-byte-ne95.branch [
      | then-byte-ne95+in_ok-value w ↦ (
        known.0,
        next_digit c.args.hex c.if-hex.base c.loop-byte.value c.if-byte-ne95.value total c.args.digits.now c.loop-byte.byte-index known.0 c.loop-byte-test.true w.if-byte-ne95.true
            (w.value-is ∙ w.in_ok-value.ensures) known.1,
      )
      | else-byte-ne95 w ↦
          (known.0, subst (λ v. digits_value_after (base c.args.hex) v (joined (drop (c.loop-byte.byte-index + 1) c.args.digits.now)) ≡ total) (sym w.value-is) (no_digit c.args.hex c.loop-byte.value total c.args.digits.now c.loop-byte.byte-index c.loop-byte-test.true w.if-byte-ne95.false known.1))
    ]

pub returns-in_err-value : goal.returns-in_err-value
returns-in_err-value c =
    let total = digits_value (base c.args.hex) (joined c.args.digits.now) in
    let known = c.loop-byte.invariant in
    subst (λ (r : Option ℕ). MatchOption r (2 ^ 64 ≤ total) (λ n. n ≡ total)) (sym c.from_residual.ensures)
    (too_many c.args.hex c.if-hex.base c.loop-byte.value total c.args.digits.now c.loop-byte.byte-index known.0 c.loop-byte-test.true c.if-byte-ne95.true c.in_err-value.ensures known.1)

pub returns : goal.returns
returns c = all_digits c.args.hex c.loop-byte.value (digits_value (base c.args.hex) (joined c.args.digits.now)) c.args.digits.now c.loop-byte.byte-index c.loop-byte-test.false c.loop-byte.invariant.1
