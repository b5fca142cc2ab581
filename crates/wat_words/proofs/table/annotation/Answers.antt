use Rattle.std.proofs.Common.{ap, get_or, ◌∙◌, []}
use Rattle.wat_words.specs.Words.{annotation_word}
use Rattle.wat_words.proofs.Tables.{annotation_table}
use Rattle.wat_words.proofs.table.annotation.Goals as goal

pub returns : goal.returns
unfolding annotation_word
returns c = c.entry_at.ensures ∙ ap (λ ws. get_or ws c.args.place []) annotation_table
