use Rattle.wat_lex.proofs.values.NumberParts.{power_none, power_some}
use Rattle.wat_lex.proofs.lexer.read.numbers.after_letter.Goals as goal

pub returns-then-is_empty : goal.returns-then-is_empty
returns-then-is_empty c = λ hex h. power_none hex c.args.rest.now c.if-is_empty.ensures

pub returns-else-is_empty : goal.returns-else-is_empty
returns-else-is_empty c = λ hex h. power_some hex c.args.rest.now c.range_from.result.now c.if-is_empty.ensures h c.range_from.ensures.value
