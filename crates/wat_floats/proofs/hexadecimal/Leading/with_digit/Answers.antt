use Rattle.wat_floats.proofs.Digits.{kept, more_digit, first_more}
use Rattle.wat_floats.proofs.hexadecimal.Leading.with_digit.Goals as goal

pub returns-then-self-clause-value : goal.returns-then-self-clause-value
returns-then-self-clause-value c n is = kept n c.args.self.count c.args.self.more c.args.digit c.requires.digit c.args.self.dropped is c.if-self.true

pub returns-then-self-2-clause-value : goal.returns-then-self-2-clause-value
returns-then-self-2-clause-value c n is = more_digit n c.args.self.count c.args.self.more c.args.digit c.requires.digit c.args.self.dropped is c.if-self.false c.if-self-2.true

pub returns-else-self-2-clause-value : goal.returns-else-self-2-clause-value
returns-else-self-2-clause-value c n is = first_more n c.args.self.count c.args.self.more c.args.digit c.requires.digit c.args.self.dropped is c.if-self.false c.if-self-2.false
