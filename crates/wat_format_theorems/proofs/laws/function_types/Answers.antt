use Rattle.wat_format_theorems.proofs.FunctionTypes.{moves_module}
use Rattle.wat_format_theorems.proofs.Layouts.{layouts_spell_the_same}
use Rattle.wat_format_theorems.proofs.laws.function_types.Goals as goal
use Rattle.wat_format_theorems.specs.lemmas.Seeing.{ShownLaws}
use Rattle.wat_format_theorems.specs.lemmas.Types.{stays}
use Rattle.wat_format_theorems.specs.lemmas.Wholes.{layouts_read_the_same, texts_read_the_same}
use Rattle.wat_types.specs.Meanings.{module_types}

pub returns-clause-read : goal.returns-clause-read
returns-clause-read c =
    let laws : ShownLaws = record { one = c.shown.ensures.one; some = c.shown.ensures.some; counting = c.counting.ensures.same } in
    layouts_read_the_same c.same_texts.ensures.same stays module_types (texts_read_the_same laws 3 stays module_types (moves_module laws))

pub returns-clause-spell : goal.returns-clause-spell
returns-clause-spell c =
    let laws : ShownLaws = record { one = c.shown.ensures.one; some = c.shown.ensures.some; counting = c.counting.ensures.same } in
    layouts_spell_the_same (layouts_read_the_same c.same_texts.ensures.same stays module_types (texts_read_the_same laws 3 stays module_types (moves_module laws)))
    c.reading_is_spelling.ensures.same c.one_tiling.ensures.some c.kept_tokens.ensures.utf8
