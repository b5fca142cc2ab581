use Rattle.wat_c.specs.Formatting.{Formats}
use Rattle.wat_c.proofs.FormattedTexts.{one_formatted}
use Rattle.wat_c.proofs.OneFinding.{one_answer}
use Rattle.wat_c.proofs.laws.one_formatted.Goals as goal

pub returns : goal.returns
returns c = λ s old. one_answer (Formats s) old (one_formatted c.one_answer.ensures.one c.one_answer.ensures.no_fault c.one_tiling.ensures.one s)
