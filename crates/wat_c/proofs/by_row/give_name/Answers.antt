use Rattle.std.proofs.Common.{◌∙◌}
use Rattle.std.specs.Cow.{cow_str_bytes}
use Rattle.wat_c.specs.ByRow.{FindsOf}
use Rattle.wat_c.specs.Readings.{IsNamed, ReadsName}
use Rattle.wat_c.proofs.Answering.{given}
use Rattle.wat_c.proofs.by_row.give_name.Goals as goal

pub returns-in-Ok : goal.returns-in-Ok
returns-in-Ok c =
    given (FindsOf IsNamed ReadsName c.args.text.now c.args.row) c.args.out.now c.give.new.out c.as_bytes.result.now (cow_str_bytes c.in-Ok.name) c.give.result
    c.in-Ok.ensures.found (c.as_bytes.ensures.value ∙ c.as_str.ensures.value) c.give.ensures.known c.give.ensures.left
