-- The source line and the marker that an error prints. The standard has none.
use Rattle.std.specs.Prelude.{ℕ, Bool, false, ◌==◌, ◌&&◌, nat_le, nat_lt, ◌+◌, ◌-◌, List, [], ◌∷◌, ◌++◌, codes, length, take, drop, replicate, flat_map, slice_get, slice_index, unwrap_or, encode_utf8_all, if◌then◌else◌}
use Rattle.std.specs.Fmt.{decimal, is_char_start}
use Rattle.std.specs.Str.{chars}
use Rattle.std.specs.Str.Lines.{lines}
use Rattle.unicode_width.specs.Width.{char_width, str_width}
use Rattle.wat_lex.specs.grammar.Classes.{is_confusing}
use Rattle.wat_lex.specs.errors.Positions.{line_and_column}

-- What an error keeps of the text: its line and column, both from 1, and the line as printed.
pub record Excerpt : Type 0 where
  pub line : ℕ
  pub column : ℕ
  pub snippet : List ℕ

-- A character of a printed line: a TAB becomes four spaces, and a confusing character is dropped.
abbrev pub rendered_char : ℕ → List ℕ
rendered_char c = if c == 9 then codes "    " else if is_confusing c then [] else c ∷ []

-- The source line as printed.
abbrev pub rendered_line : List ℕ → List ℕ
rendered_line line = encode_utf8_all (flat_map rendered_char (chars line))

-- The text has `n` bytes or more, and the first `n` of them do not end inside a character.
abbrev pub is_boundary : List ℕ → ℕ → Bool
is_boundary text n = nat_le n (length text) && is_char_start (slice_index text n)

-- The width in columns of the first `n` bytes of the text, or `n` if the text is shorter or the bytes end inside a
-- character.
abbrev pub columns : List ℕ → ℕ → ℕ
columns text n = if is_boundary text n then str_width false (chars (take n text)) else n

-- The columns of a single character. A control character has one.
abbrev pub width_alone : ℕ → ℕ
width_alone c = unwrap_or (char_width false c) 1

-- `past_columns n column cs`: the characters that follow the first ones of `cs` with `n` columns or more, and `column`
-- less the columns of these first ones.
unfoldable pub past_columns : ℕ → ℕ → List ℕ → List ℕ × ℕ
past_columns n column [] = ([], column)
past_columns n column (c ∷ cs) = if n == 0 then (c ∷ cs, column) else past_columns (n - width_alone c) (column - width_alone c) cs

-- The excerpt at a byte offset. The line is printed without LF or CRLF at its end. It is empty if the offset is in none
-- of the lines. The column is measured in the printed line, so a TAB before the offset, or a dropped character, shifts
-- it.
abbrev pub excerpt : List ℕ → ℕ → Excerpt
excerpt text offset =
    let place = line_and_column text offset in
    let snippet = rendered_line (unwrap_or (slice_get (lines text) place.0) []) in
    record { line = place.0 + 1; column = columns snippet place.1 + 1; snippet = snippet }

-- The text, aligned right in a field of this width.
abbrev pub align_right : ℕ → List ℕ → List ℕ
align_right places text = replicate (places - length text) 32 ++ text

-- The location of an error in a file of this name, and below it the source line with a marker under the column. If the
-- column is over 500, only the location.
abbrev pub rendered_location_in : List ℕ → Excerpt → List ℕ
rendered_location_in name e =
    let place = name ++ codes ":" ++ decimal e.line ++ codes ":" ++ decimal e.column in
    if nat_lt 500 e.column then codes " at " ++ place
    else codes "\n     --> " ++ place
    ++ codes "\n      |"
    ++ codes "\n " ++ align_right 4 (decimal e.line) ++ codes " | " ++ e.snippet
    ++ codes "\n      | " ++ align_right e.column (codes "^")

-- The location of an error in a text without a file name.
abbrev pub rendered_location : Excerpt → List ℕ
rendered_location e = rendered_location_in (codes "<anon>") e

-- The bytes that an error at this byte offset of a text prints: its message, its location, and the line with the
-- marker.
abbrev pub rendered : List ℕ → List ℕ → ℕ → List ℕ
rendered text message offset = message ++ rendered_location (excerpt text offset)

-- The bytes `before`, overwritten from their start by as much of the text as they have capacity for.
abbrev pub overwrite_start : List ℕ → List ℕ → List ℕ
overwrite_start text before = take (length before) text ++ drop (length text) before
