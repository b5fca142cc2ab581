use Rattle.wat_module_names_theorems.proofs.TokenExamples as examples
use Rattle.wat_module_names_theorems.proofs.laws.token_examples.Goals as goal

pub returns : goal.returns
returns c = examples.proved
