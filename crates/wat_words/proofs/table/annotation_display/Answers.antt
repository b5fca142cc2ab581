use Rattle.std.proofs.Common.{ap, get_or, ◌∙◌, [], true}
use Rattle.wat_words.specs.Words.{annotation_word, annotation_words, quoted}
use Rattle.wat_words.proofs.Tables.{get_or-map, annotation_displays}
use Rattle.wat_words.proofs.table.annotation_display.Goals as goal

pub returns : goal.returns
unfolding annotation_word
returns c =
    c.entry_at.ensures ∙ ap (λ ws. get_or ws c.args.place (quoted true [])) annotation_displays
    ∙ get_or-map (λ w. quoted true w) annotation_words c.args.place []
