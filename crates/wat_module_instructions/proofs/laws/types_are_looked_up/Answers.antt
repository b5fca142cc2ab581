use Rattle.wat_module_instructions.proofs.Alike.{more_types_keep, unknown_types_bring}
use Rattle.wat_module_instructions.proofs.laws.types_are_looked_up.Goals as goal

pub returns-clause-more : goal.returns-clause-more
returns-clause-more c = more_types_keep

pub returns-clause-unknown : goal.returns-clause-unknown
returns-clause-unknown c = unknown_types_bring
