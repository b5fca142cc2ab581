use Rattle.std.proofs.Common.{refl}
use Rattle.wat_tokens_io.specs.Lines.{line}
use Rattle.wat_tokens_io.specs.lemmas.BlockLaws.{cut_longer, on_err}
use Rattle.wat_tokens_io.proofs.block.Block.put_line.Goals as goal

pub returns-in_err-ensure_capacity-clause-cut : goal.returns-in_err-ensure_capacity-clause-cut
returns-in_err-ensure_capacity-clause-cut g c = on_err c.from_residual.result (cut_longer _ _ c.args.self.now (line c.args.token.now) _ c.in_err-ensure_capacity.ensures.cut refl)
