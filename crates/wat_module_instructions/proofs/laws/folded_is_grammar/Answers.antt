use Rattle.wat_module_instructions.proofs.Folding.{law}
use Rattle.wat_module_instructions.proofs.laws.folded_is_grammar.Goals as goal

pub returns : goal.returns
returns c = law
