use Rattle.std.proofs.Common.{◌∙◌, ◌≤◌, ◌-◌, ◌≡◌, ◌≢◌, ◌++◌, [], true, sym, ap, length, take, drop, arith, subst}
use Rattle.std.proofs.lemmas.List.{take_rest}
use Rattle.std.specs.List.{prefix_len}
use Rattle.std.specs.Prelude.{codes}
use Rattle.wat_lex.specs.grammar.Classes.{is_hex}
use Rattle.wat_lex.specs.grammar.Numbers.{has_underscores, payload, unsigned}
use Rattle.wat_lex.proofs.grammar.PlainIntegers.{end_is_at, hex_digits_alone, no_underscore, signed_no_underscore, taken_pass}
use Rattle.wat_lex.proofs.lexer.scan.numbers.plain_payload.Goals as goal

pub returns : goal.returns
returns c =
    let text = c.args.text.now in
    let word = take c.args.len text in
    let digits = c.in-Some.payload.now in
    let start = c.args.len - length digits in
    let cut : unsigned word ≡ codes "nan:0x" ++ digits = sym c.unsigned.ensures ∙ c.in-Some.ensures ∙ ap (λ x. x ++ digits) c.as_slice.ensures in
    let there : digits ≡ take (length digits) (drop start text) = sym (ap (drop 6) cut) ∙ end_is_at text c.args.len (length digits) 6 c.requires (omega (arith, ap length cut)) in
    let long : length digits ≤ prefix_len is_hex (drop start text) = omega (arith, c.if-hex_digit_len-digits.false, c.hex_digit_len.ensures, ap (prefix_len is_hex) (take_rest text start)) in
    let all : prefix_len is_hex digits ≡ length digits = subst (λ x. prefix_len is_hex x ≡ length x) (sym there) (taken_pass is_hex (length digits) (drop start text) long) in
    let some : digits ≢ [] = λ e. c.if-digits-eq0.false (ap length e) in
    (payload cut (hex_digits_alone digits some all), c.is_negative.ensures, sym (signed_no_underscore word (ap has_underscores cut ∙ no_underscore true digits all)))
