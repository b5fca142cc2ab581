use Rattle.std.proofs.Common.{[], arith}
use Rattle.std.proofs.lemmas.List.Folds.{length-flat_map-take}
use Rattle.wat_lex.specs.errors.PieceTexts.{piece_text}
use Rattle.wat_lex.specs.declared.error.pieces.Piece.{Piece}
use Rattle.wat_lex.specs.declared.error.pieces.Piece.TheVariants.{Text}
use Rattle.wat_lex.proofs.error.pieces.length_of.Goals as goal

abbrev none : Piece
none = Text (record { ref_ptr = (0, 0); now = [] })

pub length-length-requires : goal.length-length-requires
length-length-requires c = omega (arith, c.requires, length-flat_map-take piece_text c.args.pieces.now c.loop-piece.piece-index none c.loop-piece-test.true)

pub overflow_add-length : goal.overflow_add-length
overflow_add-length c = omega (arith, c.requires, c.loop-piece.invariant, c.length-length.ensures, length-flat_map-take piece_text c.args.pieces.now c.loop-piece.piece-index none c.loop-piece-test.true)
