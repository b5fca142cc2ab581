use Rattle.std.proofs.Common.{refl}
use Rattle.example_sums.specs.Sums.{term}
use Rattle.example_sums.proofs.terms.Goals as goal

pub all_of-requires : goal.all_of-requires
unfolding term
all_of-requires c = λ k. ((refl, tt), term.advances refl)
