use Rattle.wat_lexer_parser.specs.lemmas.After.{shown_is_taken}
use Rattle.wat_lexer_parser.proofs.laws.taken.Goals as goal

pub returns : goal.returns
returns c = shown_is_taken
