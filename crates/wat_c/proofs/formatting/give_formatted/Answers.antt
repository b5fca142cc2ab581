use Rattle.wat_c.proofs.FormattedTexts.{answered_error, answered_text}
use Rattle.std.specs.Prelude.{string_bytes}
use Rattle.wat_c.proofs.formatting.give_formatted.Goals as goal

pub returns-in-Ok : goal.returns-in-Ok
returns-in-Ok c =
    answered_text (record { text = c.args.text.now; flags = c.args.settings }) c.args.out.now c.give.new.out c.as_bytes.result.now (string_bytes c.in-Ok.formatted) c.give.result
    c.in-Ok.ensures.formatted c.in-Ok.ensures.short c.as_bytes.ensures.value c.give.ensures.known c.give.ensures.left

pub returns-in-Err : goal.returns-in-Err
returns-in-Err c =
    answered_error (record { text = c.args.text.now; flags = c.args.settings }) c.args.out.now c.in-Err.error c.refusal_of.result c.answer.result
    c.in-Err.ensures.refused c.refusal_of.ensures c.answer.ensures
