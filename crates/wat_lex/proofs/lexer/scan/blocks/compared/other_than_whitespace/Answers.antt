use Rattle.std.proofs.Common.{refl}
use Rattle.std.specs.Prelude.{bit_and}
use Rattle.std.proofs.lemmas.Simd.{zip2_of_maps, zip2_splat}
use Rattle.wat_lex.specs.grammar.Classes.{is_whitespace}
use Rattle.wat_lex.proofs.inside.Blocks.{failures_from_lanes}
use Rattle.wat_lex.proofs.lexer.scan.blocks.compared.other_than_whitespace.Goals as goal

pub returns : goal.returns
returns c =
    let v = c.args.block in
    let long = c.fits-block.0 in
    failures_from_lanes is_whitespace _ v _ c.fits-block
    (zip2_of_maps bit_and _ _ v
    (zip2_of_maps bit_and _ _ v
    (zip2_of_maps bit_and _ _ v (zip2_splat _ v 16 32 long) (zip2_splat _ v 16 10 long))
    (zip2_splat _ v 16 9 long))
    (zip2_splat _ v 16 13 long))
    refl
