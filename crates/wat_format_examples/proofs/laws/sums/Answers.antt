use Rattle.wat_format_theorems.specs.lemmas.Types.{stays}
use Rattle.wat_format_examples.proofs.Sums.{moves_sum}
use Rattle.wat_format_examples.proofs.laws.sums.Goals as goal

pub returns : goal.returns
returns c = c.read.ensures 3 stays (moves_sum (record { one = c.shown.ensures.one; some = c.shown.ensures.some; counting = c.counting.ensures.same }))
