use Rattle.wat_module_ast.proofs.SameTypes.{other_length}
use Rattle.wat_module_ast.proofs.types.same_values.Goals as goal

pub returns-then-some-others : goal.returns-then-some-others
returns-then-some-others c = other_length c.args.some.now c.args.others.now c.if-some-others.true
