use Rattle.wat_format.proofs.KeptTokens.{layouts_stay}
use Rattle.wat_format.proofs.laws.formatted_again.Goals as goal

pub returns : goal.returns
returns c = layouts_stay c.tokens.ensures.boundary
