-- The location of a byte: its line and column. A line ends after its line feed. A column counts bytes, including a
-- carriage return. The standard has no locations.
use Rattle.std.specs.Prelude.{ℕ, ◌+◌, ◌-◌, Bool, not, ◌==◌, nat_le, nat_lt, List, [], ◌∷◌, length, take, drop, if◌then◌else◌}
use Rattle.std.specs.Char.{len_utf8}
use Rattle.std.specs.Str.{chars}
use Rattle.std.specs.List.{count_by, suffix_len}
use Rattle.std.specs.Str.Lines.{lines}
use Rattle.wat_lex.specs.grammar.Classes.{line_feed}

abbrev pub is_line_feed : ℕ → Bool
is_line_feed b = b == line_feed

-- The line and the column of a byte offset, both from 0: the count of line feeds before it, and of the bytes since the
-- last of these. After the end of the text they are the count of lines, and 0.
abbrev pub line_and_column : List ℕ → ℕ → ℕ × ℕ
line_and_column text offset =
    if nat_le offset (length text)
    then (count_by is_line_feed (take offset text), suffix_len (λ b. not (is_line_feed b)) (take offset text))
    else (length (lines text), 0)

-- The Unicode standard, UTF-16: the count of code units of a character, which is 1 below U+10000, and 2 otherwise.
abbrev pub utf16_len : ℕ → ℕ
utf16_len c = if nat_lt c 0x10000 then 1 else 2

-- `utf16_units bytes cs`: the count of code units of those characters of `cs` that begin in the first `bytes` bytes of
-- UTF-8.
unfoldable pub utf16_units : ℕ → List ℕ → ℕ
utf16_units bytes [] = 0
utf16_units bytes (c ∷ cs) = if bytes == 0 then 0 else utf16_len c + utf16_units (bytes - len_utf8 c) cs

-- The line and the column of a byte offset, with the column in UTF-16 code units. It counts the characters of the line
-- that begin before the offset.
abbrev pub utf16_line_and_column : List ℕ → ℕ → ℕ × ℕ
utf16_line_and_column text offset =
    let place = line_and_column text offset in
    (place.0, utf16_units place.1 (chars (drop (offset - place.1) text)))
