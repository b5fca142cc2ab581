use Rattle.std.proofs.Common.{◌≡◌, ℕ, List, length, map, not, replicate, bit_and, refl}
use Rattle.std.proofs.lemmas.Simd.{zip2_of_maps, zip2_splat, zip2_splat_left}
use Rattle.std.specs.Simd.Lanes.{zip2}
use Rattle.wat_lex.specs.inside.Blocks.{is_confusing_end}
use Rattle.wat_lex.proofs.inside.Blocks.{failures_from_lanes}
use Rattle.wat_lex.proofs.lexer.scan.blocks.confusing_ends.Goals as goal

-- below a first number and above a second
between : (f : ℕ → ℕ → ℕ) (v : List ℕ) (a b : ℕ) → length v ≡ 16 → zip2 bit_and (zip2 f v (replicate 16 a)) (zip2 f (replicate 16 b) v) ≡ map (λ x. bit_and (f x a) (f b x)) v
between f v a b long = zip2_of_maps bit_and _ _ v (zip2_splat f v 16 a long) (zip2_splat_left f b 16 v long)

pub returns : goal.returns
returns c = failures_from_lanes (λ b. not (is_confusing_end b)) _ c.args.block _ c.fits-block (between _ c.args.block 175 165 c.fits-block.0) refl
