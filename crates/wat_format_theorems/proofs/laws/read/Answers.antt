use Rattle.wat_format_theorems.specs.lemmas.Wholes.{layouts_read_the_same, texts_read_the_same}
use Rattle.wat_format_theorems.proofs.laws.read.Goals as goal

pub returns : goal.returns
returns g c = λ n moved law.
    layouts_read_the_same c.same_texts.ensures.same moved g.T.Parse.meaning
    (texts_read_the_same (record { one = c.shown.ensures.one; some = c.shown.ensures.some; counting = c.counting.ensures.same }) n moved g.T.Parse.meaning law)
