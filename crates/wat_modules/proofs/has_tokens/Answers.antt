use Rattle.wat_modules.proofs.Answering.{shows_some}
use Rattle.wat_modules.proofs.has_tokens.Goals as goal

pub returns : goal.returns
returns c = shows_some c.one_tiling.ensures.some c.all_shown.ensures.all_some c.args.text.now c.utf8.text
