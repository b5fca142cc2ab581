use Rattle.std.proofs.lemmas.Bool.{both_ways}
use Rattle.wat_lex.specs.grammar.Numbers.{unsigned, decimals}
use Rattle.wat_lex.proofs.grammar.NumberKinds.{no_number, none_tail}
use Rattle.wat_lex.proofs.inside.NumberSteps.{not_empty}
use Rattle.wat_lex.proofs.lexer.scan.numbers.kind_by_rest.Goals as goal

pub returns-then-not-is_tail-clause-none : goal.returns-then-not-is_tail-clause-none
returns-then-not-is_tail-clause-none c =
    let some = not_empty c.args.rest.now c.is_empty.result c.is_empty.ensures c.if-is_empty.false in
    let other = none_tail (unsigned c.args.word.now) c.args.rest.now c.args.hex c.requires.infinity c.requires.nan c.requires.payload c.requires.first some in
    no_number c.args.word.now (other (λ t. both_ways c.is_tail.result c.if-not-is_tail.true (c.is_tail.ensures.1 t)))

pub returns-clause-some : goal.returns-clause-some
returns-clause-some c = (decimals c.requires.first.integral (c.is_tail.ensures.0 c.if-not-is_tail.false), c.has_underscores-has_underscores.ensures)
