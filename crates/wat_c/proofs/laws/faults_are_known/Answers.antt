use Rattle.wat_c.proofs.KnownFaults.{faults_are_known}
use Rattle.wat_c.proofs.laws.faults_are_known.Goals as goal

pub returns : goal.returns
returns c = faults_are_known
