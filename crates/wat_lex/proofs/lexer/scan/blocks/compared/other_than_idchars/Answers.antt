use Rattle.std.proofs.Common.{refl}
use Rattle.std.specs.Prelude.{bit_or}
use Rattle.std.proofs.lemmas.Simd.{zip2_of_maps, zip2_splat}
use Rattle.wat_lex.specs.grammar.Classes.{is_idchar}
use Rattle.wat_lex.proofs.inside.Blocks.{beside_splat, failures_from_lanes, outside}
use Rattle.wat_lex.proofs.lexer.scan.blocks.compared.other_than_idchars.Goals as goal

pub returns : goal.returns
returns c =
    let v = c.args.block in
    let long = c.fits-block.0 in
    failures_from_lanes is_idchar _ v _ c.fits-block
    (zip2_of_maps bit_or _ _ v
    (zip2_of_maps bit_or _ _ v
    (zip2_of_maps bit_or _ _ v
    (zip2_of_maps bit_or _ _ v
    (zip2_of_maps bit_or _ _ v
    (beside_splat _ _ v 123 long (zip2_splat _ v 16 96 long))
    (beside_splat _ _ v 125 long (zip2_splat _ v 16 32 long)))
    (beside_splat _ _ v 41 long (zip2_splat _ v 16 1 long)))
    (zip2_splat _ v 16 44 long))
    (zip2_splat _ v 16 34 long))
    (outside _ v 33 126 long))
    refl
