use Rattle.std.proofs.Common.{refl}
use Rattle.wat_lex.specs.inside.Blocks.{is_surely_plain}
use Rattle.wat_lex.proofs.inside.Blocks.{failures_from_lanes, outside}
use Rattle.wat_lex.proofs.lexer.scan.blocks.other_than_surely_plain.Goals as goal

pub returns : goal.returns
returns c = failures_from_lanes is_surely_plain _ c.args.block _ c.fits-block (outside _ c.args.block 14 127 c.fits-block.0) refl
