use Rattle.std.proofs.Common.{◌∙◌, ◌≤◌, ◌-◌, sym, ap, ◌≡◌, ◌≢◌, [], length, take, drop, length-drop, arith}
use Rattle.std.proofs.lemmas.List.{take_all, length-take-le}
use Rattle.std.specs.Char.{is_ascii_digit}
use Rattle.std.specs.List.{prefix_len}
use Rattle.wat_lex.specs.grammar.Numbers.{unsigned, decimal}
use Rattle.wat_lex.proofs.grammar.PlainIntegers.{digits_alone, digits_no_underscore, digits_of_word, unsigned_is_shorter}
use Rattle.wat_lex.proofs.lexer.scan.numbers.plain_decimal.Goals as goal

pub returns : goal.returns
returns c =
    let text = c.args.text.now in
    let word = take c.args.len text in
    let number = c.unsigned-number.result.now in
    let fits : length number ≤ c.args.len = omega (arith, unsigned_is_shorter word, ap length c.unsigned-number.ensures, length-take-le c.args.len text c.requires) in
    let after = drop (c.args.len - length number) text in
    let whole : take (length text - (c.args.len - length number)) after ≡ after = take_all _ after (omega (arith, length-drop (c.args.len - length number) text)) in
    let long : length number ≤ prefix_len is_ascii_digit after = omega (arith, c.if-digits-number.false, c.digit_len-digits.ensures, ap (prefix_len is_ascii_digit) whole) in
    let all = digits_of_word text c.args.len (length number) c.requires (ap length c.unsigned-number.ensures) fits long in
    let some : unsigned word ≢ [] = λ e. c.if-number-eq0.false (ap length (c.unsigned-number.ensures ∙ e)) in
    (decimal (digits_alone (unsigned word) some all), c.sign_of.ensures, sym (digits_no_underscore word all))
