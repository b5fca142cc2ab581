use Rattle.wat_valid.proofs.Distinct.{nothing, repeats, stepped}
use Rattle.wat_valid.proofs.module.add_names.Goals as goal

pub loop-name-init : goal.loop-name-init
loop-name-init c = nothing c.args.names.now

pub returns-then-not-branch : goal.returns-then-not-branch
returns-then-not-branch c = repeats c.args.names.now c.loop-name.names c.add_name.new.names c.args.exports.now c.loop-name.name-index _ _ c.loop-name-test.true c.if-not-branch.true c.loop-name.invariant c.in_ok-add_name.ensures

pub loop-name-preserved : goal.loop-name-preserved
loop-name-preserved c = stepped c.args.names.now c.loop-name.names c.add_name.new.names c.args.exports.now c.loop-name.name-index _ _ c.loop-name-test.true c.if-not-branch.false c.loop-name.invariant c.in_ok-add_name.ensures
