use Rattle.wat_module_places.proofs.ModulePlaces as places
use Rattle.wat_module_places.proofs.laws.fields_are_placed.Goals as goal

pub returns : goal.returns
returns c = places.fields_placed
