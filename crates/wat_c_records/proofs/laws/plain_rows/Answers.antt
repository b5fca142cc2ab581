use Rattle.wat_c_records.proofs.Pieces.{plain_rows_are_shown}
use Rattle.wat_c_records.proofs.laws.plain_rows.Goals as goal

pub returns : goal.returns
returns c = plain_rows_are_shown c.shown.ensures.some c.shown.ensures.one c.counting.ensures.same c.counting.ensures.plain
