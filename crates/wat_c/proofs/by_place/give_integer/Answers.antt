use Rattle.std.proofs.Common.{◌∙◌}
use Rattle.wat_lex.specs.values.NumberValues.{integer_digits}
use Rattle.wat_c.specs.Readings.{Finds, IsInteger, ReadsInteger}
use Rattle.wat_c.proofs.Answering.{given}
use Rattle.wat_c.proofs.by_place.give_integer.Goals as goal

pub returns-in-Ok : goal.returns-in-Ok
returns-in-Ok c =
    given (Finds IsInteger ReadsInteger (record { text = c.args.text.now; flags = c.args.settings }) c.args.pos) c.args.out.now c.give.new.out c.as_bytes.result.now (integer_digits c.in-Ok.integer) c.give.result
    c.in-Ok.ensures.found (c.as_bytes.ensures.value ∙ c.val.ensures.digits) c.give.ensures.known c.give.ensures.left
