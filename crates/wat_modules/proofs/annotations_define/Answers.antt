use Rattle.wat_modules.proofs.Answering.{some_sections}
use Rattle.wat_modules.proofs.annotations_define.Goals as goal

pub returns : goal.returns
returns c = some_sections c.one_tiling.ensures.some c.args.text.now c.utf8.text
