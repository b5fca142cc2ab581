use Rattle.wat_c.proofs.Compilation.{answered_bytes, answered_error}
use Rattle.wat_c.proofs.compiling.give_binary.Goals as goal

pub returns-in-Ok : goal.returns-in-Ok
returns-in-Ok c =
    answered_bytes c.args.names c.args.text.now c.args.out.now c.give.new.out c.deref.result.now c.in-Ok.bytes c.give.result
    c.compile_as.ensures.some c.in-Ok.ensures.bytes c.in-Ok.ensures.all c.in-Ok.ensures.compiled c.deref.ensures.value c.give.ensures.known c.give.ensures.left

pub returns-in-Err : goal.returns-in-Err
returns-in-Err c =
    answered_error c.args.names c.args.text.now c.args.out.now c.in-Err.error c.refusal_of.result c.answer.result
    c.compile_as.ensures.some c.in-Err.ensures.all c.in-Err.ensures.compiled c.refusal_of.ensures c.answer.ensures
