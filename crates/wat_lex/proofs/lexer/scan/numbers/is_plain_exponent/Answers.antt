use Rattle.std.proofs.Common.{◌∙◌, ◌≤◌, ◌-◌, ◌≡◌, sym, ap, length, take, drop, length-drop, arith, subst}
use Rattle.std.proofs.lemmas.Bool.{leb-true}
use Rattle.std.proofs.lemmas.List.{take_all, take_rest, length-take-le}
use Rattle.std.specs.Char.{is_ascii_digit}
use Rattle.std.specs.List.{prefix_len}
use Rattle.wat_lex.specs.grammar.Numbers.{unsigned}
use Rattle.wat_lex.proofs.grammar.PlainFloats.{exponent_is_at}
use Rattle.wat_lex.proofs.lexer.scan.numbers.is_plain_exponent.Goals as goal

pub returns-then-digits-ne0 : goal.returns-then-digits-ne0
returns-then-digits-ne0 c = λ h.
    let text = c.args.text.now in
    let w = take c.args.len text in
    let body = take (length w - 1) (drop 1 w) in
    let number = c.unsigned-digits.ensures in
    let n = length (unsigned body) in
    let after = drop (c.args.len - length c.unsigned-digits.result.now) text in
    let whole : take (length text - (c.args.len - length c.unsigned-digits.result.now)) after ≡ after = take_all _ after (omega (arith, length-drop (c.args.len - length c.unsigned-digits.result.now) text)) in
    let long : length c.unsigned-digits.result.now ≤ prefix_len is_ascii_digit after = omega (arith, leb-true (length c.unsigned-digits.result.now) c.digit_len.result h, c.digit_len.ensures, ap (prefix_len is_ascii_digit) whole) in
    exponent_is_at c.args.hex text body c.args.len c.requires (omega (arith, c.in-len1-up.len_at_least, length-take-le c.args.len text c.requires)) (take_rest w 1)
    (sym c.is_exponent_letter.ensures ∙ c.if-not-is_exponent_letter.false)
    (λ e. c.if-digits-ne0.true (ap length number ∙ e))
    (subst (λ x. length x ≤ prefix_len is_ascii_digit (drop (c.args.len - length x) text)) number long)
