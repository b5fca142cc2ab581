use Rattle.wat_c.proofs.FloatRanges.{one_parts}
use Rattle.wat_c.proofs.laws.one_parts.Goals as goal

pub returns : goal.returns
returns c = λ text t. one_parts c.floats.ensures text t
