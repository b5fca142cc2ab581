use Rattle.std.proofs.Common.{ap, get_or, ◌∙◌, []}
use Rattle.wat_words.specs.Words.{standard_word}
use Rattle.wat_words.proofs.Tables.{standard_table}
use Rattle.wat_words.proofs.table.standard.Goals as goal

pub returns : goal.returns
unfolding standard_word
returns c = c.entry_at.ensures ∙ ap (λ ws. get_or ws c.args.place []) standard_table
