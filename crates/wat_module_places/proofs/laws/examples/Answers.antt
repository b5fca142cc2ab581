use Rattle.wat_module_places.proofs.Examples as examples
use Rattle.wat_module_places.proofs.laws.examples.Goals as goal

pub returns : goal.returns
returns c = examples.proved
