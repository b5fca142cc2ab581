use Rattle.wat_module_names_theorems.proofs.NameMaps as maps
use Rattle.wat_module_names_theorems.proofs.laws.associations_are_name_map.Goals as goal

pub returns : goal.returns
returns c = maps.are_name_map
