use Rattle.wat_c.specs.Printing.{Prints}
use Rattle.wat_c.specs.declared.answers.Refusal.TheVariants.{Memory}
use Rattle.wat_c.proofs.Answering.{given, refused}
use Rattle.wat_c.proofs.printing.give_printed.Goals as goal

pub returns-in-Ok : goal.returns-in-Ok
returns-in-Ok c =
    given (Prints c.args.text.now c.args.offset c.args.message.now c.args.file.now) c.args.out.now c.give.new.out c.deref.result.now c.in-Ok.all.items c.give.result
    c.in-Ok.ensures c.deref.ensures.value c.give.ensures.known c.give.ensures.left

pub returns-in-Err : goal.returns-in-Err
returns-in-Err c =
    refused (Prints c.args.text.now c.args.offset c.args.message.now c.args.file.now) c.args.out.now (Memory c.in-Err.refused) c.answer.result
    (c.takes_memory.ensures.some c.if-not-takes_memory.false) c.answer.ensures
