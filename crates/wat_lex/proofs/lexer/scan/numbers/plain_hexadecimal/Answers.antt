use Rattle.std.proofs.Common.{◌∙◌, ◌≤◌, ◌-◌, sym, ap, ◌≡◌, ◌≢◌, [], true, refl, ◌∷◌, ◌++◌, length, take, drop, length-drop, arith, subst}
use Rattle.std.proofs.lemmas.List.{take_all}
use Rattle.std.specs.List.{prefix_len}
use Rattle.wat_lex.specs.grammar.Classes.{is_hex}
use Rattle.wat_lex.specs.grammar.Numbers.{unsigned, IntegralPart, hexadecimal}
use Rattle.wat_lex.proofs.grammar.PlainIntegers.{hex_digits_alone, hex_digits_no_underscore, hex_digits_of_word}
use Rattle.wat_lex.proofs.lexer.scan.numbers.plain_hexadecimal.Goals as goal

pub returns : goal.returns
returns c =
    let text = c.args.text.now in
    let word = take c.args.len text in
    let digits = c.in-Some.digits.now in
    let start = c.args.len - length digits in
    let cut : unsigned word ≡ 48 ∷ 120 ∷ digits = sym c.unsigned.ensures ∙ c.in-Some.ensures ∙ ap (λ x. x ++ digits) c.as_slice.ensures in
    let whole : take (length text - start) (drop start text) ≡ drop start text = take_all _ (drop start text) (omega (arith, length-drop start text)) in
    let long : length digits ≤ prefix_len is_hex (drop start text) = omega (arith, c.if-hex_digit_len-number.false, c.hex_digit_len.ensures, ap (prefix_len is_hex) whole) in
    let all = hex_digits_of_word text c.args.len (length digits) digits c.requires cut refl long in
    let some : digits ≢ [] = λ e. c.if-number-eq0.false (ap length e) in
    (subst (λ x. IntegralPart true x []) (sym cut) (hexadecimal (hex_digits_alone digits some all)), c.sign_of.ensures, sym (hex_digits_no_underscore word digits cut all))
