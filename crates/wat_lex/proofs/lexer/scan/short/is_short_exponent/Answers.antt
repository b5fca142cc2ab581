use Rattle.std.proofs.Common.{◌∙◌, ◌≤◌, ◌-◌, ◌≡◌, sym, ap, length, take, drop, length-drop, arith, subst}
use Rattle.std.proofs.lemmas.Bool.{leb-true}
use Rattle.std.proofs.lemmas.List.{take_rest, length-take-le}
use Rattle.std.specs.Char.{is_ascii_digit}
use Rattle.std.specs.List.{prefix_len}
use Rattle.wat_lex.proofs.grammar.ShortNumbers.{short_exponent}
use Rattle.wat_lex.proofs.lexer.scan.short.is_short_exponent.Goals as goal

pub returns-then-number-ne0 : goal.returns-then-number-ne0
returns-then-number-ne0 c = λ h.
    let text = c.args.text.now in
    let w = take (c.args.len - c.args.i) (drop c.args.i text) in
    let body = take (length w - 1) (drop 1 w) in
    let number = c.unsigned-number.ensures in
    let n = length c.unsigned-number.result.now in
    let room : length w ≡ c.args.len - c.args.i = length-take-le (c.args.len - c.args.i) (drop c.args.i text) (omega (arith, length-drop c.args.i text)) in
    let long : n ≤ prefix_len is_ascii_digit (drop (c.args.len - n) text) = omega (arith, leb-true n c.clear_from.result h, c.clear_from.ensures.clear is_ascii_digit text c.requires.digits) in
    short_exponent c.args.hex text body c.args.len c.args.i c.requires.within (omega (arith, c.in-len1-up.len_at_least, room)) (take_rest w 1)
    (sym c.is_exponent_letter.ensures ∙ c.if-not-is_exponent_letter.false)
    (λ e. c.if-number-ne0.true (ap length number ∙ e))
    (subst (λ x. length x ≤ prefix_len is_ascii_digit (drop (c.args.len - length x) text)) number long)
