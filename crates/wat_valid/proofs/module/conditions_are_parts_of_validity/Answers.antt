use Rattle.wat_valid.proofs.Conditions as conditions
use Rattle.wat_valid.proofs.module.conditions_are_parts_of_validity.Goals as goal

pub returns : goal.returns
returns c = conditions.parts
