use Rattle.wat_module_tokens.specs.TokenCursor.{terminals_of}
use Rattle.wat_module_tokens.proofs.stream.TokenCursor.group.Goals as goal

pub returns-in-Some : goal.returns-in-Some
unfolding terminals_of
returns-in-Some c = c.in-Some.ensures

pub returns-in-None : goal.returns-in-None
unfolding terminals_of
returns-in-None c = c.in-None.ensures
