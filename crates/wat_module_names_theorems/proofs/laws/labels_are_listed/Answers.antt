use Rattle.wat_module_names_theorems.proofs.BlockLabels as blocks
use Rattle.wat_module_names_theorems.proofs.laws.labels_are_listed.Goals as goal

pub returns : goal.returns
returns c = blocks.labels_are_listed
