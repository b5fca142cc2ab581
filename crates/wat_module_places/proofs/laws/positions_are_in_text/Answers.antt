use Rattle.wat_module_places.proofs.ModulePlaces as places
use Rattle.wat_module_places.proofs.laws.positions_are_in_text.Goals as goal

pub returns : goal.returns
returns c = places.positions_in_text
