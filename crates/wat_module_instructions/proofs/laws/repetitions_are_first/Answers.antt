use Rattle.wat_module_instructions.proofs.Repetitions as repetitions
use Rattle.wat_module_instructions.proofs.laws.repetitions_are_first.Goals as goal

pub returns : goal.returns
returns c = repetitions.law
