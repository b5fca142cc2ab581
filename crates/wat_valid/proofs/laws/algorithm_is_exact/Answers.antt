use Rattle.wat_valid.proofs.laws.algorithm_is_exact.Goals as goal
use Rattle.wat_valid.proofs.Frames as frames

pub returns : goal.returns
returns c = record { sound = frames.sound; complete = frames.complete }
