use Rattle.std.proofs.Common.{ap}
use Rattle.wat_module_tokens.specs.Terminals.{float_of}
use Rattle.wat_module_lexer.proofs.Boundaries.{at_token}
use Rattle.wat_module_lexer.proofs.read_float.Goals as goal

pub returns-then-token-lt256 : goal.returns-then-token-lt256
returns-then-token-lt256 c = let k = at_token c.args.text.now c.args.token.now c.new-offset.result c.utf8.text c.requires.token c.new-offset.ensures in (λ ks. ap float_of k.0, k.1, tt)
