-- The view of an iterator over the printed characters of a line: the remaining ones, and the spaces of a TAB at either
-- end.
use Rattle.std.specs.Prelude.{ℕ, List, ◌++◌, replicate, flat_map}
use Rattle.std.specs.Str.{chars}
use Rattle.std.specs.Str.Iter.{chars_rest}
use Rattle.wat_lex.specs.errors.Rendering.{rendered_char}
use Rattle.wat_lex.specs.declared.error.shown.Shown.TheInside.{Inside}

-- `front` spaces, the text as printed, and `back` spaces.
abbrev pub between : ℕ → List ℕ → ℕ → List ℕ
between front text back = replicate front 32 ++ (flat_map rendered_char (chars text) ++ replicate back 32)

abbrev pub shown_view : Inside → List ℕ
shown_view s = between s.front (chars_rest s.chars) s.back
