use Rattle.std.proofs.Common.{arith, w8, ℕ}
use Rattle.std.specs.Prelude.{◌==◌}
use Rattle.std.proofs.lemmas.Simd.{bitmask_splat}
use Rattle.wat_lex.proofs.token.lines.feeds_in_block.Goals as goal

pub returns : goal.returns
returns c = bitmask_splat {X = ℕ} w8 (λ a b. a == b) c.args.block 16 10 c.fits-block.0 (omega arith)
