use Rattle.std.proofs.Common.{◌≡◌, List, ℕ, ◌++◌, length}
use Rattle.std.specs.Fmt.{HasWritten, IsPlainFormatter}
use denote.Shadow.{shadow}
use denote.Text.{Utf8}
use Rattle.wat_lex.specs.errors.Rendering.{rendered_line}
use Rattle.wat_lex.proofs.error.shown.LineDisplay.fmt.Given as goal

abbrev pub invariant-loop-shown : goal.invariant-loop-shown
invariant-loop-shown g l =
    shadow (Utf8 l.rest) × (IsPlainFormatter l.initial.f → (done : List ℕ) × HasWritten g.W.Write.write_str_gives l.initial.f done l.f
    × (done ++ rendered_line l.rest ≡ rendered_line l.fn.self.0.now))

abbrev pub decreases-loop-shown : goal.decreases-loop-shown
decreases-loop-shown g l = length l.rest
