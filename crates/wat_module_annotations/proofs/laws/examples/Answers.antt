use Rattle.wat_module_annotations.proofs.Examples.{examples}
use Rattle.wat_module_annotations.proofs.laws.examples.Goals as goal

pub returns : goal.returns
returns c = examples
