use Rattle.wat_module_custom.proofs.FieldPlaces.{sections_are_placed}
use Rattle.wat_module_custom.proofs.laws.sections_are_placed.Goals as goal

pub returns : goal.returns
returns c = sections_are_placed
