use Rattle.wat_module_annotations.proofs.PlacedLaws.{names_are_placed}
use Rattle.wat_module_annotations.proofs.laws.names_are_placed.Goals as goal

pub returns : goal.returns
returns c = names_are_placed
