-- The formatted text, as a function of the raw tokens of a text. It is not part of the standard, which defines tokens
-- and not how to write them. All tokens except whitespace are kept, and so are line breaks, except at the start of the
-- text and after a `(`. Several line breaks in a gap are written as one empty line, or as one line break before a `)`.
-- Each line is indented according to its level, and all other gaps depend on the tokens on both sides.
use Rattle.std.specs.Prelude.{ℕ, ◌+◌, ◌-◌, min, Bool, true, false, List, [], ◌∷◌, ◌++◌, Option, Some, None, is_some, if◌then◌else◌}
use Rattle.wat_lex.specs.grammar.Classes.{line_feed}
use Rattle.wat_lex.specs.tokens.ReadableTokens.{token_text}
use Rattle.wat_lex.specs.declared.lexer.kinds.Token.{Token}
use Rattle.wat_lex.specs.declared.lexer.kinds.TokenKind.{TokenKind}
use Rattle.wat_lex.specs.declared.lexer.kinds.TokenKind.TheVariants.{Whitespace}
use Rattle.wat_format.specs.Gaps.{gap_of, gap_text, is_break, settled}
use Rattle.wat_format.specs.Sorts.{sort_of}
use Rattle.wat_format.specs.declared.gap.Gap.{Gap}
use Rattle.wat_format.specs.declared.gap.Gap.TheVariants.{Touching}
use Rattle.wat_format.specs.declared.group.Group.{Group}
use Rattle.wat_format.specs.declared.sort.Sort.{Sort}
use Rattle.wat_format.specs.declared.sort.Sort.TheVariants.{Open, Close, Begins, Ends, Parts}

-- The innermost open group, with the level of its lines and the number of flat blocks that are open in it, and the
-- groups around it, from the inside out.
pub record Groups : Type 0 where
  pub open_group : Group
  pub around : List Group

-- `level sort group` is the level of a line that begins with a token of this sort. It is at most 50; otherwise the
-- length of a formatted text could be quadratic in that of the text.
abbrev pub level : Sort → Group → ℕ
level Close g = min (g.floor - 1) 50
level Ends g = min (g.floor + (g.blocks - 1)) 50
level Parts g = min (g.floor + (g.blocks - 1)) 50
level y g = min (g.floor + g.blocks) 50

-- `closed group around` is the groups after a `)`. If it does not close a group, they are unchanged.
abbrev pub closed : Group → List Group → Groups
closed g [] = record { open_group = g; around = [] }
closed g (outer ∷ around) = record { open_group = outer; around = around }

-- `groups_after sort l s` is the groups after a token of this sort, on a line of level `l`.
abbrev pub groups_after : Sort → ℕ → Groups → Groups
groups_after Open l s = record { open_group = record { floor = l + 1; blocks = 0 }; around = s.open_group ∷ s.around }
groups_after Close l s = closed s.open_group s.around
groups_after Begins l s = record s { open_group = record s.open_group { blocks = s.open_group.blocks + 1 } }
groups_after Ends l s = record s { open_group = record s.open_group { blocks = s.open_group.blocks - 1 } }
groups_after y l s = s

-- The state before a token: the sort of the preceding token, if there is one, the gap between them, the level of the
-- line, and the groups.
pub record State : Type 0 where
  pub before : Option Sort
  pub gap : Gap
  pub line : ℕ
  pub groups : Groups

abbrev pub start : State
start = record { before = None; gap = Touching; line = 0; groups = record { open_group = record { floor = 0; blocks = 0 }; around = [] } }

-- `gap_after before y gap` is the gap that is written before a token of sort `y`. It is empty before the first token.
abbrev pub gap_after : Option Sort → Sort → Gap → Gap
gap_after None y g = Touching
gap_after (Some x) y g = settled x y g

abbrev pub gap_before : Sort → State → Gap
gap_before y s = gap_after s.before y s.gap

-- `line_level y gap s` is the level of the line that contains a token of sort `y` after this gap.
abbrev pub line_level : Sort → Gap → State → ℕ
line_level y g s = if is_break g then level y s.groups.open_group else s.line

abbrev pub after : Sort → ℕ → State → State
after y l s = record { before = Some y; gap = Touching; line = l; groups = groups_after y l s.groups }

abbrev pub is_white : TokenKind → Bool
is_white Whitespace = true
is_white kind = false

-- `laid text s tokens` is the formatted text of these raw tokens from state `s` on. A line end follows the last token.
abbrev pub laid : List ℕ → State → List Token → List ℕ
laid text s [] = if is_some s.before then line_feed ∷ [] else []
laid text s (t ∷ ts) =
    let w = token_text text t in
    let y = sort_of s.before t.kind w in
    let g = gap_before y s in
    let l = line_level y g s in
    if is_white t.kind then laid text (record s { gap = gap_of w }) ts
    else (gap_text g l ++ w) ++ laid text (after y l s) ts

abbrev pub layout : List ℕ → List Token → List ℕ
layout text tokens = laid text start tokens
