use Rattle.std.proofs.Common.{refl, ap, ◌∙◌, not, map}
use Rattle.std.specs.Fmt.{is_char_start}
use Rattle.std.specs.Simd.Lanes.{mask_l}
use Rattle.std.proofs.Math.Bool.{not-not}
use Rattle.wat_lex.proofs.inside.Blocks.{failures_from_lanes, outside}
use Rattle.wat_lex.proofs.token.utf16.starts_in_block.Goals as goal

pub returns : goal.returns
returns c =
    let v = c.args.block in
    failures_from_lanes (λ b. not (is_char_start b)) _ v _ c.fits-block (outside _ v 0x80 0xBF c.fits-block.0) refl
    ∙ ap (λ t. mask_l (map t v)) (λ i x. not-not (is_char_start x) i)
