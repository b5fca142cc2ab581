use Rattle.std.specs.Cow.{cow_slice_items}
use Rattle.wat_c.specs.ByRow.{FindsOf}
use Rattle.wat_c.specs.Readings.{IsString, ReadsString}
use Rattle.wat_c.proofs.Answering.{given}
use Rattle.wat_c.proofs.by_row.give_string.Goals as goal

pub returns-in-Ok : goal.returns-in-Ok
returns-in-Ok c =
    given (FindsOf IsString ReadsString c.args.text.now c.args.row) c.args.out.now c.give.new.out c.as_slice.result.now (cow_slice_items c.in-Ok.value) c.give.result
    c.in-Ok.ensures.found c.as_slice.ensures.value c.give.ensures.known c.give.ensures.left
