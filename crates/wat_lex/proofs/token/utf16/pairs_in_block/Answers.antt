use Rattle.std.proofs.Common.{refl, ap, ◌∙◌, not, map}
use Rattle.std.specs.Prelude.{bit_and}
use Rattle.std.specs.Simd.Lanes.{mask_l}
use Rattle.std.proofs.Math.Bool.{not-not}
use Rattle.std.proofs.lemmas.Simd.{zip2_splat}
use Rattle.wat_lex.specs.inside.Utf16Bytes.{begins_pair}
use Rattle.wat_lex.proofs.inside.Blocks.{failures_from_lanes, beside_splat}
use Rattle.wat_lex.proofs.token.utf16.pairs_in_block.Goals as goal

pub returns : goal.returns
returns c =
    let v = c.args.block in
    let long = c.fits-block.0 in
    failures_from_lanes (λ b. not (begins_pair b)) _ v _ c.fits-block (beside_splat _ _ v 0xF0 long (zip2_splat bit_and v 16 0xF0 long)) refl
    ∙ ap (λ t. mask_l (map t v)) (λ i x. not-not (begins_pair x) i)
