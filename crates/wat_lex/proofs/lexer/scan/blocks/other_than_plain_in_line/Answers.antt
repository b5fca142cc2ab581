use Rattle.std.proofs.Common.{refl}
use Rattle.std.proofs.lemmas.Simd.{zip2_splat, zip2_of_maps}
use Rattle.wat_lex.specs.inside.Blocks.{is_plain_in_line}
use Rattle.wat_lex.specs.declared.lexer.scan.blocks.TheConstants.{NOT_PLAIN_IN_LINE_BY_LOW}
use Rattle.wat_lex.proofs.inside.Blocks.{low_places, places_allowed, looked_up, itself, failures_from_lanes}
use Rattle.wat_lex.proofs.lexer.scan.blocks.other_than_plain_in_line.Goals as goal

pub swizzle-stop : goal.swizzle-stop
swizzle-stop c = places_allowed (low_places c.args.block c.fits-block)

pub returns : goal.returns
returns c =
    let v = c.args.block in
    let stop = looked_up NOT_PLAIN_IN_LINE_BY_LOW _ v _ (low_places v c.fits-block) (zip2_splat _ v 16 15 c.fits-block.0) in
    failures_from_lanes is_plain_in_line _ v _ c.fits-block (zip2_of_maps _ _ _ v stop (itself v)) refl
