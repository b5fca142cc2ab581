use Rattle.wat_c.proofs.OneWords.{one_word}
use Rattle.wat_c.proofs.laws.one_word.Goals as goal

pub returns : goal.returns
returns c = λ text t. one_word c.strings.ensures.one c.names.ensures.one text t
