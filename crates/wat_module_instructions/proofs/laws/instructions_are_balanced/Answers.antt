use Rattle.wat_module_instructions.proofs.Passing.{balanced, taken}
use Rattle.wat_module_instructions.proofs.laws.instructions_are_balanced.Goals as goal

pub returns-clause-balanced : goal.returns-clause-balanced
returns-clause-balanced c = balanced

pub returns-clause-taken : goal.returns-clause-taken
returns-clause-taken c = taken
