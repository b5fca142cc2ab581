use Rattle.wat_valid.proofs.laws.each_has_a_type.Goals as goal
use Rattle.wat_valid.proofs.Rows as rows

pub returns : goal.returns
returns c = rows.each_has_a_type
