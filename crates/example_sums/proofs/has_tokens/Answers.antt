use Rattle.std.proofs.Common.{false}
use Rattle.wat_lexer_parser.specs.lemmas.SpellingLaws.{some_source}
use Rattle.example_sums.specs.Spelling.{plain}
use Rattle.example_sums.proofs.has_tokens.Goals as goal

pub returns : goal.returns
returns c = some_source c.one_tiling.ensures.some (plain c.args.text.now) false c.utf8.text
