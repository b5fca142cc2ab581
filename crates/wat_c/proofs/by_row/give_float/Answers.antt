use Rattle.std.proofs.Common.{sym}
use Rattle.wat_c.specs.ByRow.{FindsOf}
use Rattle.wat_c.specs.Readings.{IsFloat, ReadsFloat}
use Rattle.wat_c.specs.declared.answers.Refusal.TheVariants.{Absent}
use Rattle.wat_c.proofs.Answering.{given, refused}
use Rattle.wat_c.proofs.by_row.give_float.Goals as goal

pub returns-in-Some : goal.returns-in-Some
returns-in-Some c =
    let found = c.in-Ok.ensures.found in
    given (FindsOf IsFloat (ReadsFloat c.args.part) c.args.text.now c.args.row) c.args.out.now c.give.new.out c.as_bytes.result.now c.in-Some.digits.now c.give.result
    (found.0, (c.in-Ok.float, found.1, sym c.in-Some.ensures)) c.as_bytes.ensures.value c.give.ensures.known c.give.ensures.left

pub returns-in-Ok : goal.returns-in-Ok
returns-in-Ok c =
    let found = c.in-Ok.ensures.found in
    refused (FindsOf IsFloat (ReadsFloat c.args.part) c.args.text.now c.args.row) c.args.out.now Absent c.answer.result
    (found.0, (c.in-Ok.float, found.1, sym c.in-None.ensures)) c.answer.ensures

pub returns : goal.returns
returns c =
    refused (FindsOf IsFloat (ReadsFloat c.args.part) c.args.text.now c.args.row) c.args.out.now c.in-Err.refusal c.answer-in-Err.result
    (c.in-Err.ensures.refused.1 c.args.part) c.answer-in-Err.ensures
