use Rattle.std.proofs.Common.{◌≡◌, length, take}
use Rattle.std.specs.Prelude.{flat_map}
use Rattle.wat_lex.specs.errors.PieceTexts.{piece_text}
use Rattle.wat_lex.proofs.error.pieces.length_of.Given as goal

abbrev pub invariant-loop-piece : goal.invariant-loop-piece
invariant-loop-piece l = l.length ≡ length (flat_map piece_text (take l.piece-index l.pieces))
