use Rattle.wat_module_ast.specs.declared.instruction.ValueType.TheVariants as value
use Rattle.wat_valid.proofs.Runs.{one_more, too_far}
use Rattle.wat_valid.proofs.locals.run_ends.Goals as goal

pub returns-in_default : goal.returns-in_default
returns-in_default c =
    let is = c.loop-run.invariant in
    too_far c.args.runs.now (record { count = 0; of = value.I32 }) c.loop-run.ends.items c.loop-run.run-index c.loop-run.count is.size c.loop-run-test.true is.counted c.in_default.ensures is.each

pub loop-run-preserved : goal.loop-run-preserved
loop-run-preserved c =
    let is = c.loop-run.invariant in
    let more = one_more c.args.runs.now (record { count = 0; of = value.I32 }) c.loop-run.ends.items c.push.new.self.items c.loop-run.run-index c.loop-run.count c.in-Some.end c.in_ok-push.ensures.items is.size c.loop-run-test.true is.counted c.in-Some.ensures.1 is.each in
    record { size = more.0; counted = more.1; each = more.2 }
