use Rattle.wat_module_places.proofs.Walking as walking
use Rattle.wat_module_places.proofs.laws.walk_is_grammar.Goals as goal

pub returns : goal.returns
returns c = walking.walk_is
