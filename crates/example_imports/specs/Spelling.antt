-- Theorem: parsing a source returns a list if and only if the source matches the grammar with it.
use Rattle.wat_lexer_parser.specs.rules.Spelling.{ReadsAsSpelled}
use Rattle.example_imports.specs.Imports.{imports}

abbrev pub ReadingIsSpelling : Type 0
ReadingIsSpelling = ReadsAsSpelled imports.reading imports.rule
