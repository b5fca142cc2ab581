-- WebAssembly 2.0, 6.2.3 (white space) and 6.2.4 (comments). The byte offset, the current span and the comment at a
-- position. A position is the number of raw tokens before it. Positions and spans are not part of the standard.
use Rattle.std.specs.Prelude.{ℕ, zero, suc, ◌+◌, Bool, true, false, ◌||◌, not, if◌then◌else◌, List, [], ◌∷◌, length, drop, slice_get}
use Rattle.std.specs.Prelude.{Option, Some, None, Ok, is_some, option_map, unwrap_or}
use Rattle.std.specs.List.{list_any}
use Rattle.wat_lexer_parser.specs.groups.Sorts.{is_close}
use Rattle.wat_lex.specs.tokens.Blanks.{is_space, is_comment, is_blank}
use Rattle.wat_lexer_parser.specs.shown.Showing.{Look, placed, shown, Finding, ended, Names, Source, Token, LexFault}
use Rattle.wat_lexer_parser.specs.Cases.{cases_of}

-- The byte offset of a position: 0 at position 0, otherwise the end of the token before it. For a position past the
-- tokens, which `IsSound` excludes, it is 0 and has no meaning.
abbrev pub offset_at : List Token → ℕ → ℕ
offset_at ts zero = 0
offset_at ts (suc p) = unwrap_or (option_map (λ t. t.offset + t.len) (slice_get ts p)) 0

-- The current span at a position: the offset of the visible token, the text's length at the end, or the offset of the
-- position at an error.
unfoldable pub current_span : Source → ℕ → Names → ℕ
current_span s p names = cases_of (shown s p names) (length s.setting.text) (λ t q. t.offset) (λ f. offset_at s.tokens p)

-- True if the end of the text or a `)` is visible.
abbrev pub empty_of : Look → Bool
empty_of look = cases_of look true (λ t q. is_close t.kind) (λ f. false)

-- The tokens without a leading whitespace token.
unfoldable pub past_space : List Token → List Token
past_space [] = []
past_space (t ∷ r) = if is_space t.kind then r else (t ∷ r)

-- The comment at the start of the tokens, if there is one. If no token is left, the result is the ending.
unfoldable pub comment_in : Option LexFault → List Token → Finding
comment_in e [] = ended e
comment_in e (t ∷ r) = if is_comment t.kind then Ok (Some (t, r)) else Ok None

-- The comment at a position, after at most one whitespace token, with the position after it.
unfoldable pub comment_at : Source → ℕ → Look
comment_at s p = placed s.tokens (comment_in s.ending (past_space (drop p s.tokens)))

-- True if the text has a significant token or a lexical error.
abbrev pub is_meaningful : Source → Bool
is_meaningful s = list_any (λ t. not (is_blank t.kind)) s.tokens || is_some s.ending
