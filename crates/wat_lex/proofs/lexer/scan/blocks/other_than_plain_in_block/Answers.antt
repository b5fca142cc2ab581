use Rattle.std.proofs.Common.{refl}
use Rattle.std.proofs.lemmas.Simd.{zip2_of_maps, zip2_splat}
use Rattle.wat_lex.specs.inside.Blocks.{is_plain_in_block}
use Rattle.wat_lex.proofs.inside.Blocks.{failures_from_lanes}
use Rattle.wat_lex.proofs.lexer.scan.blocks.other_than_plain_in_block.Goals as goal

pub returns : goal.returns
returns c =
    let v = c.args.block in
    let long = c.fits-block.0 in
    let delimiters = zip2_of_maps _ _ _ v (zip2_splat _ v 16 40 long) (zip2_splat _ v 16 59 long) in
    failures_from_lanes is_plain_in_block _ v _ c.fits-block (zip2_of_maps _ _ _ v delimiters (zip2_splat _ v 16 226 long)) refl
