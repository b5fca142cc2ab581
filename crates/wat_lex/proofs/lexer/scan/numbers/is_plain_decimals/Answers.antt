use Rattle.std.proofs.Common.{◌-◌, take, arith, subst}
use Rattle.std.proofs.lemmas.List.{take_rest}
use Rattle.wat_lex.specs.inside.ScannedNumbers.{PlainTail}
use Rattle.wat_lex.proofs.grammar.PlainFloats.{decimals_of}
use Rattle.wat_lex.proofs.lexer.scan.numbers.is_plain_decimals.Goals as goal

pub returns : goal.returns
returns c = λ h.
    let n = c.digits_len-digits.result in
    decimals_of c.args.hex c.args.text.now c.args.len n c.digits_len-digits.ensures c.if-digits-eq0.false (omega arith)
    (subst (λ x. PlainTail c.args.hex (take (c.args.len - n) x)) (take_rest c.args.text.now n) (c.is_plain_tail.ensures h))
