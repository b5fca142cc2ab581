use Rattle.wat_format.proofs.KeptTokens.{each_answered, layouts_one, no_fault}
use Rattle.wat_format.proofs.laws.one_answer.Goals as goal

pub returns : goal.returns
returns c = record {
  some = each_answered c.one_tiling.ensures.some;
  one = layouts_one c.one_tiling.ensures.one;
  no_fault = no_fault c.one_tiling.ensures.one;
}
