use Rattle.std.proofs.Common.{take}
use Rattle.std.specs.Prelude.{flat_map}
use Rattle.wat_lex.specs.errors.LaidPieces.{WritesAfter}
use Rattle.wat_lex.specs.errors.PieceTexts.{piece_text}
use Rattle.wat_lex.proofs.error.pieces.write_chunks.Given as goal

abbrev pub invariant-loop-piece : goal.invariant-loop-piece
invariant-loop-piece l = WritesAfter l.initial.out l.initial.at (flat_map piece_text (take l.piece-index l.pieces)) l.out l.at
