use Rattle.wat_tokens_io.proofs.Decimals.{pair_at}
use Rattle.wat_tokens_io.proofs.line.two_digits.Goals as goal

pub returns : goal.returns
returns c = pair_at c.args.number c.requires
