use Rattle.std.proofs.Common.{◌≡◌, List, ℕ, ◌++◌, IsUtf8}
use Rattle.std.specs.Fmt.{HasWritten, IsPlainFormatter}
use Rattle.std.specs.Str.Iter.{chars_rest}
use Rattle.wat_tokens_output.specs.Places.{visible_lines}
use Rattle.wat_tokens_output.proofs.named.ShownLinesDisplay.fmt.Given as goal

abbrev pub invariant-loop-c : goal.invariant-loop-c
invariant-loop-c g l = IsUtf8 (chars_rest l.c-iterator) × (IsPlainFormatter l.initial.f → (done : List ℕ) × HasWritten g.W.Write.write_str_gives l.initial.f done l.f
    × (done ++ visible_lines (chars_rest l.c-iterator) ≡ visible_lines l.fn.self.0.now))
