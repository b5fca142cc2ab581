use Rattle.wat_c.proofs.Checks.{checked_error, checked_none}
use Rattle.wat_c.proofs.compiling.check.Goals as goal

pub returns-in-Ok : goal.returns-in-Ok
returns-in-Ok c =
    checked_none c.args.names c.args.text.now c.args.out.now c.in-Ok.field-0 c.without.result c.compile_as.ensures.some c.in-Ok.ensures.compiled c.without.ensures

pub returns : goal.returns
returns c =
    checked_error c.args.names c.args.text.now c.args.out.now c.give_error.new.out c.in-Err.error c.give_error.result c.compile_as.ensures.some c.in-Err.ensures.compiled c.give_error.ensures
