use Rattle.std.proofs.Common.{bit_and, refl}
use Rattle.std.proofs.lemmas.Simd.{zip2_splat, zip2_of_maps, splat_is_map}
use Rattle.wat_lex.specs.grammar.Classes.{is_hex}
use Rattle.wat_lex.specs.declared.lexer.scan.blocks.TheConstants.{HEX_DIGITS_BY_LOW, HEX_DIGITS_BY_HIGH}
use Rattle.wat_lex.proofs.inside.Blocks.{low_places, high_places, places_allowed, looked_up, failures_from_lanes}
use Rattle.wat_lex.proofs.lexer.scan.blocks.other_than_hex_digits.Goals as goal

pub swizzle-low : goal.swizzle-low
swizzle-low c = places_allowed (low_places c.args.block c.fits-block)

pub swizzle-high : goal.swizzle-high
swizzle-high c = places_allowed (high_places c.args.block c.fits-block)

pub returns : goal.returns
returns c =
    let v = c.args.block in
    let long = c.fits-block.0 in
    let low = looked_up HEX_DIGITS_BY_LOW _ v _ (low_places v c.fits-block) (zip2_splat _ v 16 15 long) in
    let high = looked_up HEX_DIGITS_BY_HIGH _ v _ (high_places v c.fits-block) (zip2_splat _ v 16 4 long) in
    failures_from_lanes is_hex _ v _ c.fits-block (zip2_of_maps _ _ _ v (zip2_of_maps bit_and _ _ v low high) (splat_is_map v 16 0 long)) refl
