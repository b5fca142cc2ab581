use Rattle.std.proofs.Common.{refl}
use Rattle.std.specs.Prelude.{bit_and, bit_or}
use Rattle.std.proofs.lemmas.Simd.{zip2_of_maps, zip2_splat}
use Rattle.wat_lex.specs.grammar.Classes.{is_hex}
use Rattle.wat_lex.proofs.inside.Blocks.{failures_from_lanes, outside, outside_of}
use Rattle.wat_lex.proofs.lexer.scan.blocks.compared.other_than_hex_digits.Goals as goal

pub returns : goal.returns
returns c =
    let v = c.args.block in
    let long = c.fits-block.0 in
    failures_from_lanes is_hex _ v _ c.fits-block
    (zip2_of_maps bit_and _ _ v (outside _ v 48 57 long) (outside_of _ _ v _ 97 102 long (zip2_splat bit_or v 16 32 long)))
    refl
