use Rattle.std.proofs.Common.{ap, get_or, ◌∙◌, [], false}
use Rattle.wat_words.specs.Words.{standard_word, standard_words, quoted}
use Rattle.wat_words.proofs.Tables.{get_or-map, standard_displays}
use Rattle.wat_words.proofs.table.standard_display.Goals as goal

pub returns : goal.returns
unfolding standard_word
returns c =
    c.entry_at.ensures ∙ ap (λ ws. get_or ws c.args.place (quoted false [])) standard_displays
    ∙ get_or-map (λ w. quoted false w) standard_words c.args.place []
