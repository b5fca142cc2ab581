use Rattle.wat_module_tokens.specs.TokenCursor.{terminals_of}
use Rattle.wat_module_tokens.proofs.stream.TokenCursor.most.Goals as goal

pub returns : goal.returns
unfolding terminals_of
returns c = c.most_from.ensures
