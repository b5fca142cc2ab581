use Rattle.std.proofs.Common.{ap, sym, subst, ◌∙◌, ◌≡◌, ◌++◌, ◌∷◌, true}
use Rattle.wat_lex.specs.inside.ScannedNumbers.{OnlyIntegralPart, NoIntegralPart}
use Rattle.wat_lex.proofs.grammar.NumberKinds.{integral_hex, integral_no_hex, integral_decimal, integral_no_decimal}
use Rattle.wat_lex.proofs.lexer.scan.numbers.after_integral.Goals as goal

pub returns-in-Some : goal.returns-in-Some
returns-in-Some c =
    let e : c.args.text.now ≡ 48 ∷ 120 ∷ c.in-Some.digits.now = c.in-Some.ensures ∙ ap (λ x. x ++ c.in-Some.digits.now) c.as_slice.ensures in
    subst (λ x. OnlyIntegralPart true x c.in_ok-after_digits.field-0.now) (sym e) (integral_hex c.in-Some.digits.now c.in_ok-after_digits.field-0.now c.in_ok-after_digits.ensures)

pub returns-in_err-after_digits : goal.returns-in_err-after_digits
returns-in_err-after_digits c =
    let e : c.args.text.now ≡ 48 ∷ 120 ∷ c.in-Some.digits.now = c.in-Some.ensures ∙ ap (λ x. x ++ c.in-Some.digits.now) c.as_slice.ensures in
    rw c.from_residual.ensures (subst NoIntegralPart (sym e) (integral_no_hex c.in-Some.digits.now c.in_err-after_digits.ensures))

pub returns : goal.returns
returns c =
    integral_decimal c.args.text.now c.in_ok-after_digits-2.field-0.now (λ t e. c.in_default.ensures t (e ∙ ap (λ x. x ++ t) (sym c.as_slice.ensures))) c.in_ok-after_digits-2.ensures

pub returns-in_err-after_digits-2 : goal.returns-in_err-after_digits-2
returns-in_err-after_digits-2 c =
    rw c.from_residual-in_err-after_digits-2.ensures (integral_no_decimal c.args.text.now (λ t e. c.in_default.ensures t (e ∙ ap (λ x. x ++ t) (sym c.as_slice.ensures))) c.in_err-after_digits-2.ensures)
