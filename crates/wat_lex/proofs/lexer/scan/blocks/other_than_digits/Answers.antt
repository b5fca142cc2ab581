use Rattle.std.proofs.Common.{refl}
use Rattle.std.specs.Char.{is_ascii_digit}
use Rattle.wat_lex.proofs.inside.Blocks.{failures_from_lanes, outside}
use Rattle.wat_lex.proofs.lexer.scan.blocks.other_than_digits.Goals as goal

pub returns : goal.returns
returns c = failures_from_lanes is_ascii_digit _ c.args.block _ c.fits-block (outside _ c.args.block 48 57 c.fits-block.0) refl
