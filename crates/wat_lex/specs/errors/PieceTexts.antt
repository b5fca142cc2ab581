-- The bytes of each part of what an error prints.
use Rattle.std.specs.Prelude.{ℕ, List, encode_utf8, codes}
use Rattle.std.specs.Fmt.{decimal}
use Rattle.wat_lex.specs.errors.Messages.{lower_hex}
use Rattle.wat_lex.specs.errors.Rendering.{align_right, rendered_line}
use Rattle.wat_lex.specs.declared.error.pieces.Piece.{Piece}
use Rattle.wat_lex.specs.declared.error.pieces.Piece.TheVariants.{Text, Character, Decimal, Hexadecimal, LineNumber, Line, Marker}

abbrev pub piece_text : Piece → List ℕ
piece_text (Text s) = s.now
piece_text (Character c) = encode_utf8 c
piece_text (Decimal n) = decimal n
piece_text (Hexadecimal n) = lower_hex n
piece_text (LineNumber n) = align_right 4 (decimal n)
piece_text (Line l) = rendered_line l.0.now
piece_text (Marker column) = align_right column (codes "^")
