use Rattle.std.proofs.Common.{refl}
use Rattle.std.specs.Prelude.{bit_or}
use Rattle.std.proofs.lemmas.Simd.{zip2_splat, zip2_of_maps}
use Rattle.wat_lex.specs.inside.ScannedStrings.{is_plain}
use Rattle.wat_lex.proofs.inside.Blocks.{failures_from_lanes}
use Rattle.wat_lex.proofs.lexer.scan.plain.other_than_plain.Goals as goal

pub returns : goal.returns
returns c =
    let v = c.args.block in
    let long = c.fits-block.0 in
    failures_from_lanes is_plain _ v _ c.fits-block
    (zip2_of_maps bit_or _ _ v
    (zip2_of_maps bit_or _ _ v
    (zip2_of_maps bit_or _ _ v
    (zip2_of_maps bit_or _ _ v (zip2_splat _ v 16 32 long) (zip2_splat _ v 16 34 long))
    (zip2_splat _ v 16 92 long))
    (zip2_splat _ v 16 127 long))
    (zip2_splat _ v 16 226 long))
    refl
