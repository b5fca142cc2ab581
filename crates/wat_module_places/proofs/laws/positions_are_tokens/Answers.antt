use Rattle.wat_module_places.proofs.ModulePlaces as places
use Rattle.wat_module_places.proofs.laws.positions_are_tokens.Goals as goal

pub returns : goal.returns
returns c = places.positions_placed
