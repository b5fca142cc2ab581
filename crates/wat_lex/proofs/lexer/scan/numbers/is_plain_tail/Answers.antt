use Rattle.std.proofs.Common.{◌∙◌, ◌≤◌, ◌+◌, ◌-◌, ap, take, arith, subst}
use Rattle.std.proofs.lemmas.List.{take_rest, length-take-le}
use Rattle.std.specs.List.{prefix_len}
use Rattle.wat_lex.specs.grammar.Numbers.{is_digit, power}
use Rattle.wat_lex.specs.inside.ScannedNumbers.{PlainExponent}
use Rattle.wat_lex.proofs.grammar.PlainFloats.{word_dotted, tail_digits, tail_parts}
use Rattle.wat_lex.proofs.lexer.scan.numbers.is_plain_tail.Goals as goal

pub returns-in_default : goal.returns-in_default
returns-in_default c = λ h. let found = c.is_plain_exponent.ensures h in (power found.0, found.1)

pub returns-then-digits-len : goal.returns-then-digits-len
returns-then-digits-len c = λ h.
    let text = c.args.text.now in
    let one : 1 ≤ c.args.len = omega (arith, c.in-46.len_at_least, length-take-le c.args.len text c.requires) in
    tail_digits c.args.hex text (take c.args.len text) c.args.len c.digits_len-digits.result (word_dotted text c.args.len c.requires one (omega arith))
    (c.digits_len-digits.ensures ∙ ap (prefix_len (is_digit c.args.hex)) (take_rest text 1)) (omega arith)

pub returns : goal.returns
returns c = λ h.
    let text = c.args.text.now in
    let one : 1 ≤ c.args.len = omega (arith, c.in-46.len_at_least, length-take-le c.args.len text c.requires) in
    let n = c.digits_len-digits.result in
    tail_parts c.args.hex text (take c.args.len text) c.args.len n (word_dotted text c.args.len c.requires one (omega arith))
    (c.digits_len-digits.ensures ∙ ap (prefix_len (is_digit c.args.hex)) (take_rest text 1)) (omega arith)
    (subst (λ x. PlainExponent c.args.hex (take (c.args.len - 1 - n) x)) (take_rest text (1 + n)) (c.is_plain_exponent-2.ensures h))
