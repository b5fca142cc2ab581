use Rattle.std.proofs.Common.{◌≡◌, ◌+◌, length}
use denote.Shadow.{shadow}
use denote.Text.{Utf8}
use Rattle.wat_lex.specs.errors.Rendering.{rendered_line}
use Rattle.wat_lex.proofs.error.pieces.line_length.Given as goal

abbrev pub invariant-loop-shown : goal.invariant-loop-shown
invariant-loop-shown l = (l.length + length (rendered_line l.rest) ≡ length (rendered_line l.fn.line.0.now)) × shadow (Utf8 l.rest)

abbrev pub decreases-loop-shown : goal.decreases-loop-shown
decreases-loop-shown l = length l.rest
