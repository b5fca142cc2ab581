use Rattle.std.proofs.Common.{ap, sym, ◌∙◌, length, arith}
use Rattle.std.proofs.lemmas.List.{take_rest}
use Rattle.wat_lex.specs.grammar.Numbers.{unsigned}
use Rattle.wat_lex.proofs.inside.NumberSteps.{exponent_is}
use Rattle.wat_lex.proofs.lexer.scan.numbers.is_exponent.Goals as goal

pub returns-then-is_exponent_letter : goal.returns-then-is_exponent_letter
returns-then-is_exponent_letter c =
    exponent_is c.args.hex c.args.text.now c.unsigned.result.now c.is_digits.result (λ e. absurd (omega (arith, c.in-len1-up.len_at_least, ap length e)))
    (sym c.is_exponent_letter.ensures ∙ c.if-is_exponent_letter.true) (c.unsigned.ensures ∙ ap unsigned (take_rest c.args.text.now 1)) c.is_digits.ensures
