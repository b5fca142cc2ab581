use Rattle.wat_c_records.proofs.OneFill.{one_fill}
use Rattle.wat_c_records.proofs.laws.one_fill.Goals as goal

pub returns : goal.returns
returns c = λ s from room. one_fill c.one_answer.ensures.one s room from
