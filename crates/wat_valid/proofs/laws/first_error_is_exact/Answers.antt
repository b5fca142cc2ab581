use Rattle.wat_valid.proofs.laws.first_error_is_exact.Goals as goal
use Rattle.wat_valid.proofs.Closing as closing

pub returns : goal.returns
returns c = record { sound = closing.viable; complete = closing.goes_on_if }
