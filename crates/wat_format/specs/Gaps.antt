-- The gap between two tokens, and the gap with which the formatter replaces it, which depends on the sorts of the two
-- tokens. Gaps are not part of the standard.
use Rattle.std.specs.Prelude.{ℕ, ◌+◌, ◌*◌, replicate, Bool, true, false, not, ◌&&◌, ◌||◌, ◌==◌, nat_lt, List, [], ◌∷◌, length, if◌then◌else◌}
use Rattle.wat_lex.specs.grammar.Classes.{line_feed, carriage_return}
use Rattle.wat_format.specs.declared.gap.Gap.{Gap}
use Rattle.wat_format.specs.declared.gap.Gap.TheVariants.{Touching, Blanks, LineEnd, EmptyLine}
use Rattle.wat_format.specs.declared.sort.Sort.{Sort}
use Rattle.wat_format.specs.declared.sort.Sort.TheVariants.{Open, Close, Comment, Mark, At}

-- `line_ends p w` is the number of line ends in the whitespace `w` after byte `p`: each LF and each CR, but CR LF is
-- one line end.
abbrev pub line_ends : ℕ → List ℕ → ℕ
line_ends p [] = 0
line_ends p (c ∷ w) = (if c == carriage_return || (c == line_feed && not (p == carriage_return)) then 1 else 0) + line_ends c w

-- `gap_of w` is the gap of the whitespace between two tokens: its number of bytes, a line end, or several line ends.
abbrev pub gap_of : List ℕ → Gap
gap_of w =
    if nat_lt 1 (line_ends 0 w) then EmptyLine
    else if line_ends 0 w == 1 then LineEnd
    else if length w == 0 then Touching
    else Blanks (length w)

abbrev pub is_break : Gap → Bool
is_break LineEnd = true
is_break EmptyLine = true
is_break g = false

abbrev pub kept : Gap → Gap
kept Touching = Touching
kept g = Blanks 1

-- `settled before after gap` is the gap that replaces this one between tokens of these sorts. The first equation that
-- matches applies.
abbrev pub settled : Sort → Sort → Gap → Gap
settled Comment Close g = LineEnd
settled Comment y g = g
settled x Comment Touching = Blanks 1
settled Open Comment g = if is_break g then Blanks 1 else g
settled x Comment g = g
settled Open Mark g = kept g
settled Open At g = kept g
settled Open y g = Touching
settled x Close LineEnd = LineEnd
settled x Close EmptyLine = LineEnd
settled x y LineEnd = LineEnd
settled x y EmptyLine = EmptyLine
settled Mark y g = kept g
settled x Mark g = kept g
settled x Close g = Touching
settled x y g = Blanks 1

-- `gap_text gap l` is the text of a gap before a line of level `l`.
abbrev pub gap_text : Gap → ℕ → List ℕ
gap_text Touching l = []
gap_text (Blanks n) l = replicate n 32
gap_text LineEnd l = line_feed ∷ replicate (2 * l) 32
gap_text EmptyLine l = line_feed ∷ line_feed ∷ replicate (2 * l) 32
