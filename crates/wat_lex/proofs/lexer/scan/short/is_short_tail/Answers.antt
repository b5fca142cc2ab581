use Rattle.std.proofs.Common.{arith}
use Rattle.wat_lex.specs.grammar.Numbers.{is_digit, power}
use Rattle.wat_lex.proofs.grammar.ShortNumbers.{short_tail_digits, short_tail_parts}
use Rattle.wat_lex.proofs.lexer.scan.short.is_short_tail.Goals as goal

pub returns-then-text-i-ne46 : goal.returns-then-text-i-ne46
returns-then-text-i-ne46 c = λ h. let found = c.is_short_exponent.ensures h in (power found.0, found.1)

pub returns-then-end-len : goal.returns-then-end-len
returns-then-end-len c = λ h.
    let text = c.args.text.now in
    let clear = c.clear_from.ensures.clear (is_digit c.args.hex) text c.requires.others in
    short_tail_digits c.args.hex text c.args.len c.args.i c.requires.within c.requires.place (omega arith) (omega (arith, clear))

pub returns : goal.returns
returns c = λ h.
    let text = c.args.text.now in
    let clear = c.clear_from.ensures.clear (is_digit c.args.hex) text c.requires.others in
    short_tail_parts c.args.hex text c.args.len c.args.i c.requires.within c.requires.place (omega arith) c.clear_from.result (omega arith) clear (c.is_short_exponent-2.ensures h)
