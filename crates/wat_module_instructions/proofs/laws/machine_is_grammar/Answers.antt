use Rattle.wat_module_instructions.proofs.Runs.{law}
use Rattle.wat_module_instructions.proofs.laws.machine_is_grammar.Goals as goal

pub returns : goal.returns
returns c = law
