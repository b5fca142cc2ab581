-- The state that a formatter keeps from one token to the next.
use Rattle.std.specs.Prelude.{◌≡◌, ◌≤◌, ◌++◌, ℕ, List, ◌∷◌, Option, Some, None}
use Rattle.std.specs.List.{All}
use Rattle.wat_lex.specs.tokens.Setting.{Setting}
use Rattle.wat_lex.specs.tokens.Tiling.{MaximalTiling}
use Rattle.wat_lex.specs.tokens.UniqueTilings.{EndsFrom}
use Rattle.wat_lex.specs.declared.lexer.faults.LexFault.{LexFault}
use Rattle.wat_lex.specs.declared.lexer.kinds.Token.{Token}
use Rattle.wat_lex.specs.declared.lexer.kinds.TokenKind.{TokenKind}
use Rattle.wat_format.specs.declared.error.Error.{Error}
use Rattle.wat_format.specs.declared.error.Error.TheVariants.{Memory, Fault, TooLong}
use Rattle.wat_format.specs.declared.group.Group.{Group}
use Rattle.wat_format.specs.Sorts.{sort_of}
use Rattle.wat_format.specs.Gaps.{gap_text}
use Rattle.wat_format.specs.Layout.{State, laid, layout, gap_before, line_level, after}

-- `HasFew n group`: at most `n` flat blocks are open in the group. `Few n s` says this for all open groups.
abbrev pub HasFew : ℕ → Group → Type 0
HasFew n g = g.blocks ≤ n

pub record Few (n : ℕ) (s : State) : Type 0 where
  pub open_group : HasFew n s.groups.open_group
  pub around : All (HasFew n) s.groups.around

-- `Writes kind w s s' out out'`: a token of this kind and lexeme is written with the gap before it. The state changes
-- from `s` to `s'`, and the output from `out` to `out'`.
pub record Writes (kind : TokenKind) (w : List ℕ) (s s' : State) (out out' : List ℕ) : Type 0 where
  pub bytes : let y = sort_of s.before kind w in let g = gap_before y s in out' ≡ out ++ (gap_text g (line_level y g s) ++ w)
  pub state : let y = sort_of s.before kind w in s' ≡ after y (line_level y (gap_before y s) s) s

-- `Lays text s t s' out out'`: a raw token is accepted, which changes the state and the output. The formatted text of
-- this token and all tokens after it is the new output and that of the tokens after it.
abbrev pub Lays : List ℕ → State → Token → State → List ℕ → List ℕ → Type 0
Lays text s t s' out out' = (ts : List Token) → out ++ laid text s (t ∷ ts) ≡ out' ++ laid text s' ts

-- `EndsWithError s p error`: the error tells how the raw tokens from offset `p` end, if the formatted text up to there is too
-- long already.
abbrev pub EndsWithError : Setting → ℕ → Error → Type 0
EndsWithError s p (Memory refused) = ⊥
EndsWithError s p (Fault fault) = EndsFrom s p (Some fault)
EndsWithError s p TooLong = EndsFrom s p None

-- `Whole s tokens ending state out`: the raw tokens of the text, of which `tokens` are the last ones. Their formatted
-- text is the output `out` and the formatted text of `tokens` from this state on.
pub record Whole (s : Setting) (tokens : List Token) (ending : Option LexFault) (state : State) (out : List ℕ) : Type 0 where
  pub all : List Token
  pub tiling : MaximalTiling s 0 all ending
  pub laid_out : layout s.text all ≡ out ++ laid s.text state tokens

-- `Formats s p state out`: the state and the output of a formatter that has accepted all tokens before offset `p`.
abbrev pub Formats : Setting → ℕ → State → List ℕ → Type 0
Formats s p state out = (tokens : List Token) (ending : Option LexFault) → MaximalTiling s p tokens ending → Whole s tokens ending state out
