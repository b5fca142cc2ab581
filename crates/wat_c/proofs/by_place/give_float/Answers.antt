use Rattle.std.proofs.Common.{sym}
use Rattle.wat_lex.specs.tokens.Setting.{Setting}
use Rattle.wat_c.specs.Readings.{Finds, IsFloat, ReadsFloat}
use Rattle.wat_c.specs.declared.answers.Refusal.TheVariants.{Absent}
use Rattle.wat_c.proofs.Answering.{given, refused}
use Rattle.wat_c.proofs.Parts.{part_found, part_missing}
use Rattle.wat_c.proofs.by_place.give_float.Goals as goal

pub returns-in-Some : goal.returns-in-Some
returns-in-Some c =
    let setting : Setting = record { text = c.args.text.now; flags = c.args.settings } in
    given (Finds IsFloat (ReadsFloat c.args.part) setting c.args.pos) c.args.out.now c.give.new.out c.as_bytes.result.now c.in-Some.digits.now c.give.result
    (part_found setting c.args.pos c.args.part c.in-Ok.float c.in-Some.digits.now c.in-Ok.ensures.found (sym c.in-Some.ensures)) c.as_bytes.ensures.value c.give.ensures.known c.give.ensures.left

pub returns-in-Ok : goal.returns-in-Ok
returns-in-Ok c =
    let setting : Setting = record { text = c.args.text.now; flags = c.args.settings } in
    refused (Finds IsFloat (ReadsFloat c.args.part) setting c.args.pos) c.args.out.now Absent c.answer.result
    (part_missing setting c.args.pos c.args.part c.in-Ok.float c.in-Ok.ensures.found (sym c.in-None.ensures)) c.answer.ensures

pub returns : goal.returns
returns c =
    let setting : Setting = record { text = c.args.text.now; flags = c.args.settings } in
    refused (Finds IsFloat (ReadsFloat c.args.part) setting c.args.pos) c.args.out.now c.in-Err.refusal c.answer-in-Err.result
    (c.in-Err.ensures.refused.1 c.args.part) c.answer-in-Err.ensures
