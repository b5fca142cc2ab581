use Rattle.wat_c.proofs.Checks.{one_check}
use Rattle.wat_c.proofs.laws.one_check.Goals as goal

pub returns : goal.returns
returns c = one_check c.one_answer.ensures.one c.one_tiling.ensures.one c.all_shown.ensures.all_one c.sections_are_one.ensures
