use Rattle.std.proofs.Common.{ap, ◌∙◌, subst}
use Rattle.std.specs.Prelude.{IfOk}
use Rattle.wat_lex.specs.grammar.Numbers.{unsigned}
use Rattle.wat_lex.specs.values.NumberValues.{IsText}
use Rattle.wat_lex.proofs.values.NumberParts.{payload_is}
use Rattle.wat_lex.proofs.lexer.read.numbers.payload.Goals as goal

pub returns-clause-value : goal.returns-clause-value
returns-clause-value c =
    let e = payload_is c.args.word.now c.unsigned-number.result.now c.range_from.result.now (c.unsigned-number.ensures ∙ ap unsigned c.as_bytes.ensures.value) c.range_from.ensures.value c.requires.payload in
    subst (λ d. IfOk c.number_text.result (IsText c.args.underscores d)) e c.number_text.ensures.value
