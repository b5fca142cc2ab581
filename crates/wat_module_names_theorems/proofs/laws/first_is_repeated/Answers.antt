use Rattle.wat_module_names_theorems.proofs.Repetitions as repetitions
use Rattle.wat_module_names_theorems.proofs.laws.first_is_repeated.Goals as goal

pub returns : goal.returns
returns c = repetitions.first_is_repeated
