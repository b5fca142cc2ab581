use Rattle.wat_valid.proofs.laws.modules_of_examples.Goals as goal
use Rattle.wat_valid.proofs.Examples as examples

pub returns : goal.returns
returns c = examples.modules
