use Rattle.std.proofs.Common.{All, take}
use Rattle.wat_lex.proofs.encode.slice_fits.Given as goal

abbrev pub invariant-loop-item : goal.invariant-loop-item
invariant-loop-item g l = All g.T.Encode.fits (take l.item-index l.items)
