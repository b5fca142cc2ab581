use Rattle.wat_lexer_parser.proofs.calls.Refusals.{nothing_else}
use Rattle.wat_lexer_parser.proofs.laws.calls.Goals as goal

pub returns : goal.returns
returns c = nothing_else
