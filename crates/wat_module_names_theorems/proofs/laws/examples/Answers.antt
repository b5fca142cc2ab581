use Rattle.wat_module_names_theorems.proofs.Examples as examples
use Rattle.wat_module_names_theorems.proofs.laws.examples.Goals as goal

pub returns : goal.returns
returns c = examples.proved
