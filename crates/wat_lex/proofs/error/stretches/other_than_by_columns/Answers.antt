use Rattle.std.proofs.Common.{refl, ℕ, cond, ltb}
use Rattle.std.specs.Prelude.{bit_and, bit_or}
use Rattle.std.proofs.lemmas.Simd.{zip2_splat, zip2_splat_left, zip2_of_maps}
use Rattle.wat_lex.specs.errors.LineBytes.{is_by_columns}
use Rattle.wat_lex.proofs.inside.Blocks.{failures_from_lanes}
use Rattle.wat_lex.proofs.error.stretches.other_than_by_columns.Goals as goal

pub returns : goal.returns
returns c =
    let v = c.args.block in
    let long = c.fits-block.0 in
    failures_from_lanes is_by_columns _ v _ c.fits-block
    (zip2_of_maps bit_and _ _ v (zip2_of_maps bit_or _ _ v (zip2_splat _ v 16 32 long) (zip2_splat_left {X = ℕ} (λ a b. cond (ltb a b) 255 0) 126 16 v long)) (zip2_splat {Y = ℕ} _ v 16 9 long))
    refl
