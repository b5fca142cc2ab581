use Rattle.wat_lexer_parser.specs.lemmas.SpellingLaws.{reads_as_spelled, spelled_once}
use Rattle.example_sums.specs.Spelling.{plain}
use Rattle.example_sums.specs.Sums.{sum}
use Rattle.example_sums.proofs.laws.reading_is_spelling.Goals as goal

pub returns-clause-same : goal.returns-clause-same
returns-clause-same c = reads_as_spelled c.one_tiling.ensures.one c.all_shown.ensures.all_some c.shown.ensures.one sum.reading sum.rule sum.law

pub returns-clause-one : goal.returns-clause-one
returns-clause-one c = λ text.
    spelled_once (reads_as_spelled c.one_tiling.ensures.one c.all_shown.ensures.all_some c.shown.ensures.one sum.reading sum.rule sum.law) (plain text)
