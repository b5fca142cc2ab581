use Rattle.std.proofs.Common.{ap, sym, ◌∙◌}
use Rattle.std.proofs.Output.{has_written_of_eq}
use Rattle.wat_lex.specs.errors.PieceTexts.{piece_text}
use Rattle.wat_lex.proofs.errors.Rendering.{styled_line, styled_marker}
use Rattle.wat_lex.proofs.error.pieces.PieceDisplay.fmt.Goals as goal

pub returns-in-LineNumber-clause-writes : goal.returns-in-LineNumber-clause-writes
returns-in-LineNumber-clause-writes g c = λ plain ok.
    has_written_of_eq _ _ _ _ _ (styled_line c.laid_out.result c.in-LineNumber.number c.laid_out.ensures ∙ ap piece_text (sym c.in-LineNumber.is)) (c.write-in-LineNumber.ensures.writes plain ok)

pub returns-in-Marker-clause-writes : goal.returns-in-Marker-clause-writes
returns-in-Marker-clause-writes g c = λ plain ok.
    has_written_of_eq _ _ _ _ _ (styled_marker c.laid_out-in-Marker.result c.in-Marker.column c.laid_out-in-Marker.ensures ∙ ap piece_text (sym c.in-Marker.is)) (c.write-in-Marker.ensures.writes plain ok)
