use Rattle.wat_module_names_theorems.proofs.IndirectNameMaps as maps
use Rattle.wat_module_names_theorems.proofs.laws.indirect_associations_are_name_map.Goals as goal

pub returns : goal.returns
returns c = maps.are_name_map
