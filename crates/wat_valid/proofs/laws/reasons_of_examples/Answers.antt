use Rattle.wat_valid.proofs.laws.reasons_of_examples.Goals as goal
use Rattle.wat_valid.proofs.Examples as examples

pub returns : goal.returns
returns c = examples.reasons
