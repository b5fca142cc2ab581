-- The rendered error of a file's text: that of a text without a file, but with the file's name instead of `<anon>`, a
-- window of a long line, and its control characters replaced. Not part of the standard.
use Rattle.std.specs.Prelude.{ℕ, Bool, not, nat_lt, ◌==◌, ◌&&◌, ◌||◌, nat_le, ◌+◌, ◌-◌, List, [], ◌∷◌, ◌++◌, codes, length, map, Option, Some, None, if◌then◌else◌, encode_utf8, encode_utf8_all}
use Rattle.std.specs.Fmt.{decimal}
use Rattle.std.specs.Char.{is_ascii}
use Rattle.std.specs.List.{prefix_len}
use Rattle.std.specs.Str.{chars}
use Rattle.wat_lex.specs.errors.Errors.{Report, cause_text, printed}
use Rattle.wat_lex.specs.errors.Rendering.{Excerpt, align_right, past_columns}

-- The Unicode Standard, chapter 24, Control Pictures: the picture of a control character of ASCII. The other control
-- characters, U+0080 to U+009F, have none, and are replaced by the replacement character.
abbrev pub visible_char : ℕ → ℕ
visible_char c =
    if nat_lt c 0x20 then 0x2400 + c
    else if c == 0x7F then 0x2421
    else if nat_le 0x80 c && nat_lt c 0xA0 then 0xFFFD
    else c

-- `text` with its control characters replaced.
abbrev pub visible : List ℕ → List ℕ
visible text = encode_utf8_all (map visible_char (chars text))

-- The character that replaces `c` in a text of lines: line feeds are unchanged.
abbrev pub visible_in_lines : ℕ → ℕ
visible_in_lines c = if c == 10 then 10 else visible_char c

-- `text` with its control characters replaced, except line feeds.
abbrev pub visible_lines : List ℕ → List ℕ
visible_lines text = encode_utf8_all (map visible_in_lines (chars text))

-- `start_of n cs`: the first `n` characters of `cs`, in UTF-8, and `...` if more characters follow.
unfoldable pub start_of : ℕ → List ℕ → List ℕ
start_of n [] = []
start_of n (c ∷ cs) = if n == 0 then codes "..." else encode_utf8 c ++ start_of (n - 1) cs

-- The source line as printed has more than 500 characters, or the column of the error is over 500.
abbrev pub is_long : Excerpt → Bool
is_long e = nat_lt 500 e.column || nat_lt 500 (length (chars e.snippet))

-- The printed characters before the error are ASCII, so that each of them has one column.
abbrev pub is_ascii_before : Excerpt → Bool
is_ascii_before e = nat_le (e.column - 1) (prefix_len is_ascii (chars e.snippet))

-- The start of a source line is left out: the line is long, and the column of the error is over 250.
abbrev pub is_cut : Excerpt → Bool
is_cut e = nat_lt 250 e.column && is_long e

-- The characters of a source line that follow what is left out, and the column of the error, counted from 1, among
-- them. If the start is left out and the characters before the error are ASCII, the column is 250.
abbrev pub window : Excerpt → List ℕ × ℕ
window e = if is_cut e then past_columns (e.column - 250) e.column (chars e.snippet) else (chars e.snippet, e.column)

-- The dots that replace the start of a source line, if it is left out, and the spaces below them.
abbrev pub dots : Bool → List ℕ
dots cut = if cut then codes "..." else []

abbrev pub indent : Bool → List ℕ
indent cut = if cut then codes "   " else []

-- The name of a file, and the line and the column of an error.
abbrev pub place_in : List ℕ → Excerpt → List ℕ
place_in name e = name ++ (codes ":" ++ (decimal e.line ++ (codes ":" ++ decimal e.column)))

-- The marker, below the column of the error.
abbrev pub marker : Excerpt → List ℕ
marker e = indent (is_cut e) ++ align_right (window e).1 (codes "^")

-- The location of an error in a file of this name, and below it at most 500 characters of the source line, with a
-- marker under the column. Dots replace the characters that are left out. Of a long line whose characters before the
-- error are not ASCII, only the location: their columns do not tell which characters to leave out.
abbrev pub location_in : List ℕ → Excerpt → List ℕ
location_in name e =
    if is_long e && not (is_ascii_before e) then codes " at " ++ place_in name e
    else codes "\n     --> " ++ (place_in name e ++ (codes "\n      |\n " ++ (align_right 4 (decimal e.line) ++ (codes " | " ++ dots (is_cut e)))))
    ++ start_of 500 (window e).0
    ++ (codes "\n      | " ++ marker e)

-- The rendered report `r` of an error in the file `name`. The name comes first if there is no excerpt.
abbrev pub in_file : List ℕ → Report → Option Excerpt → List ℕ
in_file name r None = name ++ (codes ": " ++ printed (Some r))
in_file name r (Some e) = cause_text r.cause ++ location_in name e

-- The rendered error of the file `name`. Control characters of its line are not replaced.
abbrev pub printed_in : List ℕ → Option Report → List ℕ
printed_in name None = name ++ (codes ": " ++ printed None)
printed_in name (Some r) = in_file name r r.excerpt

-- The output for an error in the file of this name, or in standard input without a name.
abbrev pub shown_in : Option (List ℕ) → Option Report → List ℕ
shown_in None error = printed error
shown_in (Some name) error = visible_lines (printed_in (visible name) error)

-- The name of a file and a colon before a message, or nothing without a name.
abbrev pub of_file : Option (List ℕ) → List ℕ
of_file None = []
of_file (Some name) = visible name ++ codes ": "
