use Rattle.std.proofs.Common.{◌≡◌, List, ℕ, ◌++◌, length}
use Rattle.wat_lex.specs.errors.LaidPieces.{WritesAfter}
use denote.Shadow.{shadow}
use denote.Text.{Utf8}
use Rattle.wat_lex.specs.errors.Rendering.{rendered_line}
use Rattle.wat_lex.proofs.error.pieces.write_line.Given as goal

abbrev pub invariant-loop-shown : goal.invariant-loop-shown
invariant-loop-shown l = (done : List ℕ) × WritesAfter l.initial.out l.initial.at done l.out l.at × (done ++ rendered_line l.rest ≡ rendered_line l.fn.line.0.now) × shadow (Utf8 l.rest)

abbrev pub decreases-loop-shown : goal.decreases-loop-shown
decreases-loop-shown l = length l.rest
