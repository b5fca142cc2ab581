use Rattle.wat_valid.proofs.OneFailure.{one}
use Rattle.wat_valid.proofs.validity.first_violation_is_one.Goals as goal

pub returns : goal.returns
returns c = one
