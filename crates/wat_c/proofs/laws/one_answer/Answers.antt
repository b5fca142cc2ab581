use Rattle.wat_c.specs.Readings.{Finds, FindsFault, IsString, IsNamed, IsInteger, IsFloat, ReadsString, ReadsName, ReadsInteger, ReadsFloat, ReadsNameFault}
use Rattle.wat_c.proofs.OneFinding.{one_answer, one_finding, one_string, one_name, one_name_fault, one_integer, one_float, one_fault}
use Rattle.wat_c.proofs.laws.one_answer.Goals as goal

pub returns-clause-strings : goal.returns-clause-strings
returns-clause-strings c = λ s p old. one_answer (Finds IsString ReadsString s p) old (one_finding c.one_answer.ensures.one IsString ReadsString s p (λ t _. one_string c.strings.ensures.one s.text t))

pub returns-clause-names : goal.returns-clause-names
returns-clause-names c = λ s p old. one_answer (Finds IsNamed ReadsName s p) old (one_finding c.one_answer.ensures.one IsNamed ReadsName s p (λ t _. one_name c.names.ensures.one s.text t))

pub returns-clause-name_faults : goal.returns-clause-name_faults
returns-clause-name_faults c = λ s p old. one_answer (Finds IsNamed ReadsNameFault s p) old (one_finding c.one_answer.ensures.one IsNamed ReadsNameFault s p (λ t _. one_name_fault c.names.ensures.one s.text t))

pub returns-clause-integers : goal.returns-clause-integers
returns-clause-integers c = λ s p old. one_answer (Finds IsInteger ReadsInteger s p) old (one_finding c.one_answer.ensures.one IsInteger ReadsInteger s p (λ t _. one_integer s.text t))

pub returns-clause-floats : goal.returns-clause-floats
returns-clause-floats c = λ s p part old. one_answer (Finds IsFloat (ReadsFloat part) s p) old (one_finding c.one_answer.ensures.one IsFloat (ReadsFloat part) s p (λ t _. one_float c.floats.ensures part s.text t))

pub returns-clause-faults : goal.returns-clause-faults
returns-clause-faults c = λ s p old. one_answer (FindsFault s p) old (one_fault c.one_answer.ensures.one s p)
