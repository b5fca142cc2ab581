use Rattle.wat_lexer_parser.specs.lemmas.SpellingLaws.{reads_as_spelled}
use Rattle.example_imports.specs.Imports.{imports}
use Rattle.example_imports.proofs.laws.reading_is_spelling.Goals as goal

pub returns : goal.returns
returns c = reads_as_spelled c.one_tiling.ensures.one c.all_shown.ensures.all_some c.shown.ensures.one imports.reading imports.rule imports.law
