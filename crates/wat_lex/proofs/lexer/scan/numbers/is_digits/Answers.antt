use Rattle.wat_lex.proofs.inside.NumberSteps.{digits_whole}
use Rattle.wat_lex.proofs.lexer.scan.numbers.is_digits.Goals as goal

pub returns-in-Some : goal.returns-in-Some
returns-in-Some c = digits_whole c.args.hex c.args.text.now c.in-Some.rest.now c.is_empty.result c.is_empty.ensures c.in-Some.ensures
