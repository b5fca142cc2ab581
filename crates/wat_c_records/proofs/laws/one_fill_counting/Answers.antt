use Rattle.wat_c_records.proofs.OneCounting.{one_fill_counting}
use Rattle.wat_c_records.proofs.laws.one_fill_counting.Goals as goal

pub returns : goal.returns
returns c = λ s from room. one_fill_counting c.one_answer.ensures.one s room from
