use Rattle.wat_module_names_theorems.proofs.Derivations as derivations
use Rattle.wat_module_names_theorems.proofs.laws.bodies_have_structure.Goals as goal

pub returns : goal.returns
returns c = derivations.bodies_have_structure
