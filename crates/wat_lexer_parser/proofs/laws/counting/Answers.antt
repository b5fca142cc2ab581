use Rattle.wat_lexer_parser.proofs.shown.CountingTokens.{counting_shows_the_same, plain_tokens_are_shown}
use Rattle.wat_lexer_parser.proofs.laws.counting.Goals as goal

pub returns-clause-same : goal.returns-clause-same
returns-clause-same c = counting_shows_the_same c.tokens.ensures.boundary

pub returns-clause-plain : goal.returns-clause-plain
returns-clause-plain c = plain_tokens_are_shown
