use Rattle.wat_c.specs.Compiling.{Compiles}
use Rattle.wat_c.proofs.Compilation.{one_binary}
use Rattle.wat_c.proofs.OneFinding.{one_answer}
use Rattle.wat_c.proofs.laws.one_binary.Goals as goal

pub returns : goal.returns
returns c = λ names text old. one_answer (Compiles names text) old (one_binary c.one_tiling.ensures.one c.all_shown.ensures.all_one c.sections_are_one.ensures names text)
