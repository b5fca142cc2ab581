use Rattle.wat_c.specs.ByRow.{FindsOf, token_of}
use Rattle.wat_c.specs.Readings.{IsString, IsNamed, IsInteger, IsFloat, ReadsString, ReadsName, ReadsInteger, ReadsFloat}
use Rattle.wat_c.proofs.OneFinding.{one_answer, one_string, one_name, one_integer, one_float}
use Rattle.wat_c.proofs.OneOfRow.{one_of_row}
use Rattle.wat_c.proofs.laws.one_answer_of_row.Goals as goal

pub returns-clause-strings : goal.returns-clause-strings
returns-clause-strings c = λ text row old. one_answer (FindsOf IsString ReadsString text row) old (one_of_row IsString ReadsString text row (one_string c.strings.ensures.one text (token_of row)))

pub returns-clause-names : goal.returns-clause-names
returns-clause-names c = λ text row old. one_answer (FindsOf IsNamed ReadsName text row) old (one_of_row IsNamed ReadsName text row (one_name c.names.ensures.one text (token_of row)))

pub returns-clause-integers : goal.returns-clause-integers
returns-clause-integers c = λ text row old. one_answer (FindsOf IsInteger ReadsInteger text row) old (one_of_row IsInteger ReadsInteger text row (one_integer text (token_of row)))

pub returns-clause-floats : goal.returns-clause-floats
returns-clause-floats c = λ text row part old. one_answer (FindsOf IsFloat (ReadsFloat part) text row) old (one_of_row IsFloat (ReadsFloat part) text row (one_float c.floats.ensures part text (token_of row)))
