use Rattle.std.specs.Prelude.{codes}
use Rattle.wat_format_examples.specs.Formats.{imports_moved}
use Rattle.wat_format_examples.proofs.Imports.{moves_imports}
use Rattle.wat_format_examples.proofs.laws.imports.Goals as goal
use Rattle.wat_format_theorems.specs.lemmas.Moving.{moves_under}
use Rattle.wat_format_theorems.specs.lemmas.Seeing.{ShownLaws}
use Rattle.wat_format_theorems.specs.lemmas.Wholes.{layouts_read_the_same, texts_read_the_same}
use Rattle.example_imports.specs.Imports.{imports}
use Rattle.wat_lexer_parser.specs.readings.Readings.{under}

pub returns-clause-read : goal.returns-clause-read
returns-clause-read c = c.read.ensures 3 imports_moved (moves_imports (record { one = c.shown.ensures.one; some = c.shown.ensures.some; counting = c.counting.ensures.same }))

pub returns-clause-named : goal.returns-clause-named
returns-clause-named c =
    let named = under (codes "name") imports.reading in
    let laws : ShownLaws = record { one = c.shown.ensures.one; some = c.shown.ensures.some; counting = c.counting.ensures.same } in
    layouts_read_the_same c.same_texts.ensures.same imports_moved named (texts_read_the_same laws 3 imports_moved named (moves_under imports_moved 3 (codes "name") imports.reading (moves_imports laws)))
