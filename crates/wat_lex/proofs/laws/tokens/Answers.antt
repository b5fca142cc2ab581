use Rattle.wat_lex.proofs.tokens.EverySetting.{tokens_are_readable, tokens_end_at_boundaries, words_of_tokens}
use Rattle.wat_lex.proofs.laws.tokens.Goals as goal

pub returns-clause-readable : goal.returns-clause-readable
returns-clause-readable c = tokens_are_readable

pub returns-clause-boundary : goal.returns-clause-boundary
returns-clause-boundary c = tokens_end_at_boundaries

pub returns-clause-word : goal.returns-clause-word
returns-clause-word c = words_of_tokens
