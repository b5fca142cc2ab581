-- WebAssembly 2.0, 6.2.2 (tokens): the longest match is taken, so the tokens of a source text are unique.
use Rattle.std.specs.Prelude.{◌≡◌, ℕ, List, length, Option, Result, MatchOption, MatchResult}
use Rattle.wat_lex.specs.tokens.Faults.{FaultAt}
use Rattle.wat_lex.specs.tokens.Setting.{Setting}
use Rattle.wat_lex.specs.tokens.Tiling.{TokenAt, MaximalTiling}
use Rattle.wat_lex.specs.declared.lexer.kinds.Token.{Token}
use Rattle.wat_lex.specs.declared.lexer.faults.LexFault.{LexFault}

-- `ResultAt s p r`: `r` is what the text has at byte `p`: a token, its end (`None`), or a lexical error.
abbrev pub ResultAt : Setting → ℕ → Result (Option Token) LexFault → Type 0
ResultAt s p r = MatchResult r (λ found. MatchOption found (p ≡ length s.text) (TokenAt s p)) (FaultAt s p)

-- `SomeTiling s p`: there is a maximal tiling from byte `p`.
abbrev pub SomeTiling : Setting → ℕ → Type 0
SomeTiling s p = (ts : List Token) × (e : Option LexFault) × MaximalTiling s p ts e

-- `EndsFrom s from ending`: the raw tokens from byte `from` have this ending, the end of the text or a lexical error.
pub record EndsFrom (s : Setting) (from : ℕ) (ending : Option LexFault) : Type 0 where
  pub tokens : List Token
  pub tiling : MaximalTiling s from tokens ending

-- `OneTiling s p`: any two maximal tilings from byte `p` have the same tokens and the same ending.
abbrev pub OneTiling : Setting → ℕ → Type 0
OneTiling s p = (ts us : List Token) (e f : Option LexFault) → MaximalTiling s p ts e → MaximalTiling s p us f → (ts ≡ us) × (e ≡ f)
