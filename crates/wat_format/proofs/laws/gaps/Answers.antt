use Rattle.wat_format.proofs.Spacing.{gaps_are_exact, marks_go_by_gaps}
use Rattle.wat_format.proofs.laws.gaps.Goals as goal

pub returns : goal.returns
returns c = record { exact = gaps_are_exact c.tokens.ensures.boundary; marked = marks_go_by_gaps c.tokens.ensures.boundary }
