use Rattle.wat_c.specs.Printing.{Prints}
use Rattle.wat_c.proofs.OneFinding.{one_answer}
use Rattle.wat_c.proofs.PrintedErrors.{one_print}
use Rattle.wat_c.proofs.laws.one_print.Goals as goal

pub returns : goal.returns
returns c = λ text message file offset old. one_answer (Prints text offset message file) old (one_print text offset message file)
