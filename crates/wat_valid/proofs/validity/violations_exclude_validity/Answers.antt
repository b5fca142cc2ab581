use Rattle.wat_valid.proofs.FirstInvalid.{excluded}
use Rattle.wat_valid.proofs.validity.violations_exclude_validity.Goals as goal

pub returns : goal.returns
returns c = excluded
