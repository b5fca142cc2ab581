use Rattle.wat_module_places.proofs.Walking as walking
use Rattle.wat_module_places.proofs.laws.instructions_are_placed.Goals as goal

pub returns : goal.returns
returns c = walking.instructions_are
