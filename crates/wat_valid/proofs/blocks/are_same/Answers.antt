use Rattle.wat_valid.proofs.SameTypes.{other_length}
use Rattle.wat_valid.proofs.blocks.are_same.Goals as goal

pub returns-then-some-others : goal.returns-then-some-others
returns-then-some-others c = other_length c.args.some.now c.args.others.now c.if-some-others.true
